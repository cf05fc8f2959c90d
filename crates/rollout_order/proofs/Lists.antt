-- Lists that grow by one.
use Rattle.std.proofs.Common.{◌≡◌, ℕ, zero, suc, ◌+◌, ◌<◌, refl, sym, ◌∙◌, ap, subst, arith, Bool, true, false, cond, List, [], ◌∷◌, ◌++◌, map, filter, length, get_or, take, add-one, append_assoc, nat_eq}
use Rattle.std.specs.Cmp.Lexicographic.{pointwise}
use Rattle.std.specs.List.{flat_map, list_any, range_with_len}
use Rattle.std.proofs.lemmas.Grind.{flat_map-append}
use Rattle.std.proofs.lemmas.List.{append-nil, take_more, get_or_default}
use Rattle.maglev_table.proofs.Walks.{range_more, kept_more}
use Rattle.pool_versions.specs.declared.backend.Backend.{Backend}
use Rattle.selection.specs.Picks.{NamedTable}
use Rattle.rollout_plan.specs.Counts.{moved}
use Rattle.rollout_order.specs.Rollouts.{with_name, names_behind}
use Rattle.rollout_order.specs.Steps.{marked_at, all_moved}

names_append : (names : List (List ℕ)) (bs : List Backend) (b : Backend) → names_behind names (bs ++ b ∷ []) ≡ with_name (names_behind names bs) b.name
names_append names [] b = refl
names_append names (c ∷ cs) b = names_append (with_name names c.name) cs b

-- one more backend's name
pub names_more : (bs : List Backend) (i : ℕ) (b : Backend) (names new : List (List ℕ)) → i < length bs → b ≡ get_or bs i b → names ≡ names_behind [] (take i bs) → new ≡ with_name names b.name →
    new ≡ names_behind [] (take (i + 1) bs)
names_more bs i b names new low read held is =
    is ∙ ap (λ (ns : List (List ℕ)). with_name ns b.name) held ∙ sym (names_append [] (take i bs) b)
    ∙ ap (λ (c : Backend). names_behind [] (take i bs ++ c ∷ [])) read
    ∙ ap (names_behind []) (sym (take_more bs i b low))

pub name_new : (names : List (List ℕ)) (name : List ℕ) → list_any (λ n. pointwise nat_eq n name) names ≡ false → names ++ name ∷ [] ≡ with_name names name
name_new names name e = rw e refl

pub name_there : (names : List (List ℕ)) (name : List ℕ) → list_any (λ n. pointwise nat_eq n name) names ≡ true → names ≡ with_name names name
name_there names name e = rw e refl

flat_map_next : {X : Type 0} (f : ℕ → List X) (n : ℕ) → flat_map f (range_with_len 0 (n + 1)) ≡ flat_map f (range_with_len 0 n) ++ f n
flat_map_next f n = ap (flat_map f) (range_more n) ∙ flat_map-append f (range_with_len 0 n) (n ∷ []) ∙ ap (λ (xs : List _). flat_map f (range_with_len 0 n) ++ xs) (append-nil (f n))

-- one more name that is marked
pub marked_more : (marks : List Bool) (names : List (List ℕ)) (place : ℕ) (name : List ℕ) (found : List (List ℕ)) → place < length names → name ≡ get_or names place name → get_or marks place false ≡ true →
    found ≡ flat_map (marked_at marks names) (range_with_len 0 place) → found ++ name ∷ [] ≡ flat_map (marked_at marks names) (range_with_len 0 (place + 1))
marked_more marks names place name found low read hit held =
    let here : marked_at marks names place ≡ name ∷ [] = rw hit (ap (λ (n : List ℕ). n ∷ []) (get_or_default names place [] name low ∙ sym read)) in
    ap (λ (ns : List (List ℕ)). ns ++ name ∷ []) held ∙ sym (flat_map_next (marked_at marks names) place ∙ ap (λ (ns : List (List ℕ)). flat_map (marked_at marks names) (range_with_len 0 place) ++ ns) here)

-- and one that isn't
pub marked_kept : (marks : List Bool) (names : List (List ℕ)) (place : ℕ) (found : List (List ℕ)) → get_or marks place false ≡ false →
    found ≡ flat_map (marked_at marks names) (range_with_len 0 place) → found ≡ flat_map (marked_at marks names) (range_with_len 0 (place + 1))
marked_kept marks names place found miss held =
    let here : marked_at marks names place ≡ [] = rw miss refl in
    held ∙ sym (append-nil (flat_map (marked_at marks names) (range_with_len 0 place))) ∙ sym (flat_map_next (marked_at marks names) place ∙ ap (λ (ns : List (List ℕ)). flat_map (marked_at marks names) (range_with_len 0 place) ++ ns) here)

moved_next : (bs cs : List NamedTable) (i : ℕ) (b c : NamedTable) → i < length bs → i < length cs → b ≡ get_or bs i b → c ≡ get_or cs i c →
    all_moved (take (suc i) bs) (take (suc i) cs) ≡ all_moved (take i bs) (take i cs) + moved b c
moved_next [] cs i b c low high read read' = absurd (omega (arith, low))
moved_next (b0 ∷ bs) [] i b c low high read read' = absurd (omega (arith, high))
moved_next (b0 ∷ bs) (c0 ∷ cs) zero b c low high read read' =
    let e : moved b c ≡ moved b0 c0 = ap (λ (t : NamedTable). moved t c) read ∙ ap (moved b0) read' in
    omega (arith, e)
moved_next (b0 ∷ bs) (c0 ∷ cs) (suc i) b c low high read read' =
    let e = moved_next bs cs i b c (omega (arith, low)) (omega (arith, high)) read read' in
    omega (arith, e)

-- one more service's tables
pub moved_more : (bs cs : List NamedTable) (i : ℕ) (b c : NamedTable) (total slots new : ℕ) → i < length bs → length bs ≡ length cs → b ≡ get_or bs i b → c ≡ get_or cs i c →
    total ≡ all_moved (take i bs) (take i cs) → slots ≡ moved b c → new ≡ total + slots → new ≡ all_moved (take (i + 1) bs) (take (i + 1) cs)
moved_more bs cs i b c total slots new low same read read' held here is =
    let e = moved_next bs cs i b c low (omega (arith, low, same)) read read' in
    let n : new ≡ all_moved (take (suc i) bs) (take (suc i) cs) = omega (arith, e, held, here, is) in
    subst (λ (m : ℕ). new ≡ all_moved (take m bs) (take m cs)) (sym (add-one i)) n

map_append : {X Y : Type 0} (f : X → Y) (xs ys : List X) → map f (xs ++ ys) ≡ map f xs ++ map f ys
map_append f [] ys = refl
map_append f (x ∷ xs) ys = ap (λ (zs : List _). f x ∷ zs) (map_append f xs ys)

-- one more number that is kept and mapped, behind others
pub kept_yes : {X Y : Type 0} (view : X → Y) (f : ℕ → Y) (keep : ℕ → Bool) (n : ℕ) (old : List Y) (xs : List X) (x : X) → keep n ≡ true → view x ≡ f n →
    map view xs ≡ old ++ map f (filter keep (range_with_len 0 n)) → map view (xs ++ x ∷ []) ≡ old ++ map f (filter keep (range_with_len 0 (n + 1)))
kept_yes view f keep n old xs x hit is held =
    let more : filter keep (range_with_len 0 (n + 1)) ≡ filter keep (range_with_len 0 n) ++ n ∷ [] = kept_more keep n ∙ ap (λ (b : Bool). filter keep (range_with_len 0 n) ++ cond b (n ∷ []) []) hit in
    map_append view xs (x ∷ []) ∙ ap (λ (ys : List _). ys ++ view x ∷ []) held ∙ ap (λ (y : _). (old ++ map f (filter keep (range_with_len 0 n))) ++ y ∷ []) is
    ∙ append_assoc old (map f (filter keep (range_with_len 0 n))) (f n ∷ [])
    ∙ ap (λ (ys : List _). old ++ ys) (sym (ap (map f) more ∙ map_append f (filter keep (range_with_len 0 n)) (n ∷ [])))

-- and one that isn't
pub kept_no : {Y : Type 0} (f : ℕ → Y) (keep : ℕ → Bool) (n : ℕ) (old ys : List Y) → keep n ≡ false →
    ys ≡ old ++ map f (filter keep (range_with_len 0 n)) → ys ≡ old ++ map f (filter keep (range_with_len 0 (n + 1)))
kept_no f keep n old ys miss held =
    let more : filter keep (range_with_len 0 (n + 1)) ≡ filter keep (range_with_len 0 n) = kept_more keep n ∙ ap (λ (b : Bool). filter keep (range_with_len 0 n) ++ cond b (n ∷ []) []) miss ∙ append-nil (filter keep (range_with_len 0 n)) in
    held ∙ ap (λ (ns : List ℕ). old ++ map f ns) (sym more)
