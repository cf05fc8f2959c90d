-- What is taken out of rings, and what is pushed into them.
use Rattle.std.proofs.Common.{◌≡◌, Bool, true, false, ℕ, zero, suc, ◌+◌, ◌<◌, ◌≤◌, List, [], ◌∷◌, ◌++◌, length, map, set, get_or, refl, sym, ap, ◌∙◌, arith}
use Rattle.std.specs.Prelude.{slice_index, MatchBool}
use Rattle.std.proofs.lemmas.List.{map-set, set-get_or, get_or-map, get_or-set_same, length-map}
use Rattle.rtrb.specs.declared.consumer.Consumer.{Consumer}
use Rattle.rtrb.specs.Ring.{received}
use Rattle.thread_roles.specs.declared.ring.Output.{Output}
use Rattle.thread_roles.specs.Taken.{weigh, taken}

pub weigh_push : {X : Type 0} (f : X → ℕ) (xs : List X) (x : X) → weigh f (xs ++ x ∷ []) ≡ weigh f xs + f x
weigh_push f [] x = omega arith
weigh_push f (y ∷ xs) x = let m = weigh_push f xs x in omega (arith, m)

-- one of them came to weigh more
weigh-set : {X : Type 0} (f : X → ℕ) (xs : List X) (i : ℕ) (d y : X) (more : ℕ) → i < length xs → f y ≡ f (get_or xs i d) + more → weigh f (set xs i y) ≡ weigh f xs + more
weigh-set f [] i d y more h e = absurd (omega arith)
weigh-set f (x ∷ xs) zero d y more h e = omega (arith, e)
weigh-set f (x ∷ xs) (suc i) d y more h e = let m = weigh-set f xs i d y more (omega arith) e in omega (arith, m)

-- an item more was taken out of one ring
pub taken_more : {A P : Type 0} (f : Output → ℕ) (rings : List (Consumer Output A P)) (i : ℕ) (old new : Consumer Output A P) (x : Output) → i < length rings → old ≡ get_or rings i old → received new ≡ received old ++ x ∷ [] → taken f (set rings i new) ≡ taken f rings + f x
taken_more f rings i old new x h is more =
    weigh-set (λ r. weigh f (received r)) rings i old new (f x) h
    (ap (λ l. weigh f l) more ∙ weigh_push f (received old) x ∙ ap (λ r. weigh f (received r) + f x) is)

-- nothing was
pub taken_same : {A P : Type 0} (f : Output → ℕ) (rings : List (Consumer Output A P)) (i : ℕ) (old new : Consumer Output A P) → i < length rings → old ≡ get_or rings i old → received new ≡ received old → taken f (set rings i new) ≡ taken f rings
taken_same f rings i old new h is same =
    let m = weigh-set (λ r. weigh f (received r)) rings i old new 0 h (ap (λ l. weigh f l) same ∙ ap (λ r. weigh f (received r)) is ∙ omega arith) in
    omega (arith, m)

-- what one element of a list is seen as becomes what a function makes of it
pub view_set : {V Y : Type 0} (view : V → Y) (vs : List V) (w : ℕ) (old new : V) (d : Y) (f : Y → Y) → w < length vs → old ≡ get_or vs w old → view new ≡ f (view old) → map view (set vs w new) ≡ set (map view vs) w (f (get_or (map view vs) w d))
view_set view vs w old new d f h is more =
    map-set view vs w new
    ∙ ap (λ y. set (map view vs) w y) (more ∙ ap f (ap view is ∙ sym (get_or-map view vs w old d h)))

-- the same where nothing came
same_set : {V Y : Type 0} (view : V → Y) (vs : List V) (w : ℕ) (old new : V) (d : Y) → w < length vs → old ≡ get_or vs w old → view new ≡ view old → map view (set vs w new) ≡ map view vs
same_set view vs w old new d h is same =
    view_set view vs w old new d (λ y. y) h is same
    ∙ set-get_or (map view vs) w d

-- the one or the other, as an answer tells
pub offered_set : {V Y : Type 0} (view : V → Y) (vs : List V) (w : ℕ) (old new : V) (d : Y) (f : Y → Y) (b : Bool) → w < length vs → old ≡ get_or vs w old → MatchBool b (view new ≡ f (view old)) (view new ≡ view old)
    → MatchBool b (map view (set vs w new) ≡ set (map view vs) w (f (get_or (map view vs) w d))) (map view (set vs w new) ≡ map view vs)
offered_set view vs w old new d f true h is more = view_set view vs w old new d f h is more
offered_set view vs w old new d f false h is same = same_set view vs w old new d h is same

-- the first elements of a list, each as a function makes it
abbrev pub first_mapped : {Y : Type 0} → (Y → Y) → ℕ → List Y → List Y
first_mapped f zero ys = ys
first_mapped f (suc n) [] = []
first_mapped f (suc n) (y ∷ ys) = f y ∷ first_mapped f n ys

mapped_at : {Y : Type 0} (f : Y → Y) (ys : List Y) (n : ℕ) (d : Y) → n < length ys → get_or (first_mapped f n ys) n d ≡ get_or ys n d
mapped_at f [] n d h = absurd (omega arith)
mapped_at f (y ∷ ys) zero d h = refl
mapped_at f (y ∷ ys) (suc n) d h = mapped_at f ys n d (omega arith)

mapped_more : {Y : Type 0} (f : Y → Y) (ys : List Y) (n : ℕ) (d : Y) → n < length ys → set (first_mapped f n ys) n (f (get_or ys n d)) ≡ first_mapped f (suc n) ys
mapped_more f [] n d h = absurd (omega arith)
mapped_more f (y ∷ ys) zero d h = refl
mapped_more f (y ∷ ys) (suc n) d h = ap (λ l. f y ∷ l) (mapped_more f ys n d (omega arith))

pub mapped_all : {Y : Type 0} (f : Y → Y) (ys : List Y) (n : ℕ) → length ys ≤ n → first_mapped f n ys ≡ map f ys
mapped_all f [] zero h = refl
mapped_all f [] (suc n) h = refl
mapped_all f (y ∷ ys) zero h = absurd (omega arith)
mapped_all f (y ∷ ys) (suc n) h = ap (λ l. f y ∷ l) (mapped_all f ys n (omega arith))

pub mapped_step : {V Y : Type 0} (view : V → Y) (vs start : List V) (n : ℕ) (old new : V) (d : Y) (f : Y → Y) → n < length start → length vs ≡ length start → old ≡ get_or vs n old → view new ≡ f (view old) → map view vs ≡ first_mapped f n (map view start) → map view (set vs n new) ≡ first_mapped f (n + 1) (map view start)
mapped_step view vs start n old new d f h same is more so_far =
    let long : length (map view start) ≡ length start = length-map start view in
    let one : suc n ≡ n + 1 = omega arith in
    let was : get_or (map view vs) n d ≡ get_or (map view start) n d = ap (λ l. get_or l n d) so_far ∙ mapped_at f (map view start) n d (omega arith) in
    view_set view vs n old new d f (omega (arith, same)) is more
    ∙ ap (λ y. set (map view vs) n (f y)) was
    ∙ ap (λ l. set l n (f (get_or (map view start) n d))) so_far
    ∙ mapped_more f (map view start) n d (omega arith)
    ∙ ap (λ k. first_mapped f k (map view start)) one

-- what was written is at its place
pub number_set : {V : Type 0} (number : V → ℕ) (vs : List V) (w : ℕ) (new : V) → w < length vs → number new ≡ 0 → slice_index (map number (set vs w new)) w ≡ 0
number_set number vs w new h none =
    ap (λ (l : List ℕ). get_or l w 0) (map-set number vs w new)
    ∙ get_or-set_same (map number vs) w (number new) 0 (omega (arith, length-map vs number, h))
    ∙ none

-- what holds of an element as it is seen holds at its place
pub holds_at : {V Y : Type 0} (view : V → Y) (vs : List V) (w : ℕ) (old : V) (d : Y) (is : Y → Bool) → w < length vs → old ≡ get_or vs w old → is (view old) ≡ true → is (get_or (map view vs) w d) ≡ true
holds_at view vs w old d is h at holds = ap is (get_or-map view vs w old d h ∙ ap view (sym at)) ∙ holds
