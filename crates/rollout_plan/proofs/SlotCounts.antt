-- Counts of slots.
use Rattle.std.proofs.Common.{◌≡◌, ◌≢◌, ℕ, zero, suc, ◌+◌, ◌<◌, ◌≤◌, ◌==◌, refl, sym, ◌∙◌, ap, subst, arith, Bool, true, false, cond, not, ◌&&◌, nat_lt, List, [], ◌∷◌, length, get_or, take, slice_get, Some, None, inl, inr, add-one, add-zero}
use Rattle.std.specs.List.{All, range_with_len, count_by}
use Rattle.std.proofs.lemmas.Bool.{cases_eq, cases_lt, eq-eqb, true≢false}
use Rattle.std.proofs.lemmas.Bool.Decides.{nat_tests}
use Rattle.std.proofs.lemmas.List.{take_all}
use Rattle.std.proofs.lemmas.List.Elements.{All-head, All-tail}
use Rattle.std.proofs.lemmas.List.FromFn.{length-range_with_len, get_or-map-range_with_len, length-map-range_with_len}
use Rattle.std.proofs.lemmas.List.Sums.{sum_by_push, sum_by-cons, sum_by_more, count_by-le-length}
use Rattle.std.proofs.lemmas.Option.{slice_get-get_or}
use Rattle.maglev_table.specs.Turns.{slots_of, all_slots_of}
use Rattle.maglev_table.proofs.Walks.{range_more}
use Rattle.maglev_table.proofs.Steps.{eqb_false}
use Rattle.pool_versions.specs.declared.backend.Backend.{Backend}
use Rattle.maglev_table.specs.Weights.{weighted_maglev}
use Rattle.selection.specs.Picks.{NamedTable, preferences, slots_among}
use Rattle.selection.specs.Readied.{same_backend}
use Rattle.table_commands.specs.Compare.{name_alike, is_moved, named_at}
use Rattle.rollout_plan.specs.Counts.{slots_naming, stays_up, who_drains, changed, down, moved, drained}

lt_true : (a b : ℕ) → a < b → nat_lt a b ≡ true
lt_true a b h = grind (arith, nat_tests)

lt_false : (a b : ℕ) → b ≤ a → nat_lt a b ≡ false
lt_false a b h = grind (arith, nat_tests)

lt_more : (o k : ℕ) → o ≢ k → nat_lt o (k + 1) ≡ nat_lt o k
lt_more o k apart = elim (cases_lt o k) [
  | inl low ↦ lt_true o (k + 1) (omega arith) ∙ sym (lt_true o k low)
  | inr high ↦ lt_false o (k + 1) (omega arith) ∙ sym (lt_false o k high)
]

and_false : (b : Bool) → (b && false) ≡ false
and_false true = refl
and_false false = refl

-- one more number counted
pub count_next : (p : ℕ → Bool) (n : ℕ) → count_by p (range_with_len 0 (n + 1)) ≡ count_by p (range_with_len 0 n) + cond (p n) 1 0
count_next p n = ap (count_by p) (range_more n) ∙ sum_by_push (λ x. cond (p x) 1 0) (range_with_len 0 n) n

pub count_yes : (p : ℕ → Bool) (n old : ℕ) → p n ≡ true → old ≡ count_by p (range_with_len 0 n) → old + 1 ≡ count_by p (range_with_len 0 (n + 1))
count_yes p n old here held = ap (λ (m : ℕ). m + 1) held ∙ sym (count_next p n ∙ ap (λ (b : Bool). count_by p (range_with_len 0 n) + cond b 1 0) here)

pub count_no : (p : ℕ → Bool) (n old : ℕ) → p n ≡ false → old ≡ count_by p (range_with_len 0 n) → old ≡ count_by p (range_with_len 0 (n + 1))
count_no p n old gone held =
    let e : count_by p (range_with_len 0 (n + 1)) ≡ count_by p (range_with_len 0 n) + 0 = count_next p n ∙ ap (λ (b : Bool). count_by p (range_with_len 0 n) + cond b 1 0) gone in
    omega (arith, e, held)

-- a test that is two tests of which at most one holds
pub count_sum : {X : Type 0} (p q r : X → Bool) → ((x : X) → cond {A = ℕ} (p x) 1 0 ≡ cond (q x) 1 0 + cond (r x) 1 0) → (xs : List X) → count_by p xs ≡ count_by q xs + count_by r xs
count_sum p q r h [] = refl
count_sum p q r h (x ∷ xs) =
    let a = sum_by-cons (λ y. cond {A = ℕ} (p y) 1 0) x xs in
    let b = sum_by-cons (λ y. cond {A = ℕ} (q y) 1 0) x xs in
    let c = sum_by-cons (λ y. cond {A = ℕ} (r y) 1 0) x xs in
    omega (arith, a, b, c, h x, count_sum p q r h xs)

pub count_same : (p q : ℕ → Bool) (xs : List ℕ) → All (λ x. p x ≡ q x) xs → count_by p xs ≡ count_by q xs
count_same p q [] h = refl
count_same p q (x ∷ xs) h =
    let e : p x ≡ q x = All-head (λ y. p y ≡ q y) x xs h in
    let a = sum_by-cons (λ y. cond {A = ℕ} (p y) 1 0) x xs in
    let b = sum_by-cons (λ y. cond {A = ℕ} (q y) 1 0) x xs in
    let i = count_same p q xs (All-tail (λ y. p y ≡ q y) x xs h) in
    a ∙ ap (λ (b : Bool). cond b 1 0 + count_by p xs) e ∙ ap (λ (n : ℕ). cond (q x) 1 0 + n) i ∙ sym b

pub count_none : (p : ℕ → Bool) (xs : List ℕ) → ((x : ℕ) → p x ≡ false) → count_by p xs ≡ 0
count_none p [] h = refl
count_none p (x ∷ xs) h =
    let a = sum_by-cons (λ y. cond {A = ℕ} (p y) 1 0) x xs in
    let i = count_none p xs h in
    a ∙ ap (λ (b : Bool). cond b 1 0 + count_by p xs) (h x) ∙ omega (arith, i)

pub count_none_below : (p : ℕ → Bool) (n : ℕ) → ((x : ℕ) → x < n → p x ≡ false) → count_by p (range_with_len 0 n) ≡ 0
count_none_below p zero h = refl
count_none_below p (suc n) h =
    let i = count_none_below p n (λ x below. h x (omega arith)) in
    let e : count_by p (range_with_len 0 (n + 1)) ≡ count_by p (range_with_len 0 n) + 0 = count_next p n ∙ ap (λ (b : Bool). count_by p (range_with_len 0 n) + cond b 1 0) (h n (omega arith)) in
    let f : count_by p (range_with_len 0 (n + 1)) ≡ 0 = omega (arith, e, i) in
    subst (λ (m : ℕ). count_by p (range_with_len 0 m) ≡ 0) (add-one n) f

pub count_all : (p : ℕ → Bool) (xs : List ℕ) → ((x : ℕ) → p x ≡ true) → count_by p xs ≡ length xs
count_all p [] h = refl
count_all p (x ∷ xs) h =
    let a = sum_by-cons (λ y. cond {A = ℕ} (p y) 1 0) x xs in
    let i = count_all p xs h in
    let e : count_by p (x ∷ xs) ≡ 1 + count_by p xs = a ∙ ap (λ (b : Bool). cond b 1 0 + count_by p xs) (h x) in
    omega (arith, e, i)

-- a test of a list's numbers, counted by their places
count_at_to : (f : ℕ → Bool) (xs : List ℕ) (n : ℕ) → n ≤ length xs → count_by (λ i. f (get_or xs i 0)) (range_with_len 0 n) ≡ count_by f (take n xs)
count_at_to f xs zero h = refl
count_at_to f xs (suc n) h =
    let i = count_at_to f xs n (omega arith) in
    let a = count_next (λ i. f (get_or xs i 0)) n in
    let b = sum_by_more (λ x. cond {A = ℕ} (f x) 1 0) xs n 0 (omega arith) in
    let e : count_by (λ i. f (get_or xs i 0)) (range_with_len 0 (n + 1)) ≡ count_by f (take (n + 1) xs) = a ∙ ap (λ (m : ℕ). m + cond (f (get_or xs n 0)) 1 0) i ∙ sym b in
    subst (λ (m : ℕ). count_by (λ i. f (get_or xs i 0)) (range_with_len 0 m) ≡ count_by f (take m xs)) (add-one n) e

pub count_at : (f : ℕ → Bool) (xs : List ℕ) (n : ℕ) → length xs ≡ n → count_by (λ i. f (get_or xs i 0)) (range_with_len 0 n) ≡ count_by f xs
count_at f xs n e = count_at_to f xs n (omega (arith, e)) ∙ ap (count_by f) (take_all n xs (omega (arith, e)))

-- a place is one of a backend, and below another
abbrev pub taken_below : Backend → List Backend → ℕ → ℕ → Bool
taken_below b ups k place = nat_lt place k && name_alike (Some b) (slice_get ups place)

more_yes : (t : ℕ → Bool) (k o : ℕ) → t k ≡ true → cond {A = ℕ} (nat_lt o (k + 1) && t o) 1 0 ≡ cond (nat_lt o k && t o) 1 0 + cond (o == k) 1 0
more_yes t k o hit = elim (cases_eq o k) [
  | inl same ↦
      let here : t o ≡ true = ap t same ∙ hit in
      let a : nat_lt o (k + 1) ≡ true = lt_true o (k + 1) (omega (arith, same)) in
      let b : nat_lt o k ≡ false = lt_false o k (omega (arith, same)) in
      let c : (o == k) ≡ true = eq-eqb o k same in
      rw (a, b, c, here) refl
  | inr apart ↦
      let c : (o == k) ≡ false = eqb_false o k apart in
      rw (lt_more o k apart, c) (sym (add-zero _))
]

more_no : (t : ℕ → Bool) (k o : ℕ) → t k ≡ false → (nat_lt o (k + 1) && t o) ≡ (nat_lt o k && t o)
more_no t k o miss = elim (cases_eq o k) [
  | inl same ↦
      let here : t o ≡ false = ap t same ∙ miss in
      rw here (and_false (nat_lt o (k + 1)) ∙ sym (and_false (nat_lt o k)))
  | inr apart ↦ ap (λ (b : Bool). b && t o) (lt_more o k apart)
]

-- the slots of one more place, where it is the backend's
pub place_yes : (b : Backend) (ups : List Backend) (owners : List ℕ) (k : ℕ) → name_alike (Some b) (slice_get ups k) ≡ true →
    count_by (taken_below b ups (k + 1)) owners ≡ count_by (taken_below b ups k) owners + slots_of k owners
place_yes b ups owners k hit = count_sum (taken_below b ups (k + 1)) (taken_below b ups k) (λ o. o == k) (λ o. more_yes (λ place. name_alike (Some b) (slice_get ups place)) k o hit) owners

-- and where it isn't
pub place_no : (b : Backend) (ups : List Backend) (owners : List ℕ) (k : ℕ) → name_alike (Some b) (slice_get ups k) ≡ false →
    count_by (taken_below b ups (k + 1)) owners ≡ count_by (taken_below b ups k) owners
place_no b ups owners k miss = count_same (taken_below b ups (k + 1)) (taken_below b ups k) owners (λ i d within. more_no (λ place. name_alike (Some b) (slice_get ups place)) k (get_or owners i d) miss)

pub no_place : (b : Backend) (ups : List Backend) (owners : List ℕ) → 0 ≡ count_by (taken_below b ups 0) owners
no_place b ups owners = sym (count_none (taken_below b ups 0) owners (λ o. ap (λ (t : Bool). t && name_alike (Some b) (slice_get ups o)) (lt_false o 0 (omega arith))))

-- the slots of all places of a backend are those that name it
pub all_places : (size : ℕ) (ups : List Backend) (owners : List ℕ) (b : Backend) → ((ups ≡ [] → ⊥) → length owners ≡ size) → All (λ place. place < length ups) owners →
    count_by (taken_below b ups (length ups)) owners ≡ slots_naming (Some b) (record { size = size; ups = ups; owners = owners })
all_places size [] owners b long named =
    sym (no_place b [] owners) ∙ sym (count_none _ (range_with_len 0 size) (λ slot. refl))
all_places size (u ∷ us) owners b long named =
    count_same _ (λ o. name_alike (Some b) (slice_get (u ∷ us) o)) owners (λ i d within. ap (λ (t : Bool). t && name_alike (Some b) (slice_get (u ∷ us) (get_or owners i d))) (lt_true _ _ (named i d within)))
    ∙ sym (count_at (λ o. name_alike (Some b) (slice_get (u ∷ us) o)) owners size (long (λ e. let bad : u ∷ us ≡ [] = e in absurd cc)))

-- where nobody is up every slot names nobody
pub all_name_nobody : (size : ℕ) (owners : List ℕ) → size ≡ slots_naming None (record { size = size; ups = []; owners = owners })
all_name_nobody size owners = sym (count_all _ (range_with_len 0 size) (λ slot. refl) ∙ length-range_with_len 0 size)

somebody : (u : Backend) (us : List Backend) (place : ℕ) → place < length (u ∷ us) → name_alike None (slice_get (u ∷ us) place) ≡ false
somebody u us place low = ap (name_alike None) (slice_get-get_or (u ∷ us) place u low)

-- and else none does
pub none_names_nobody : (size : ℕ) (ups : List Backend) (owners : List ℕ) → (ups ≡ [] → ⊥) → length owners ≡ size → All (λ place. place < length ups) owners →
    0 ≡ slots_naming None (record { size = size; ups = ups; owners = owners })
none_names_nobody size [] owners some long named = absurd (some refl)
none_names_nobody size (u ∷ us) owners some long named =
    sym (count_none_below _ size (λ slot within. somebody u us (get_or owners slot 0) (named slot 0 (omega (arith, long)))))

-- how many slots a place has, as they are counted
pub count_read : (ups : List Backend) (owners counts : List ℕ) (k : ℕ) (x : ℕ) → counts ≡ all_slots_of (length ups) owners → k < length ups → x ≡ get_or counts k x → x ≡ slots_of k owners
count_read ups owners counts k x are low read =
    read ∙ ap (λ (xs : List ℕ). get_or xs k x) are ∙ get_or-map-range_with_len (λ who. slots_of who owners) 0 (length ups) k k x low (omega arith)

-- a test that is three tests of which at most one holds
count_three : {X : Type 0} (p q r s : X → Bool) → ((x : X) → cond {A = ℕ} (p x) 1 0 ≡ cond (q x) 1 0 + cond (r x) 1 0 + cond (s x) 1 0) → (xs : List X) → count_by p xs ≡ count_by q xs + count_by r xs + count_by s xs
count_three p q r s h [] = refl
count_three p q r s h (x ∷ xs) =
    let a = sum_by-cons (λ y. cond {A = ℕ} (p y) 1 0) x xs in
    let b = sum_by-cons (λ y. cond {A = ℕ} (q y) 1 0) x xs in
    let c = sum_by-cons (λ y. cond {A = ℕ} (r y) 1 0) x xs in
    let d = sum_by-cons (λ y. cond {A = ℕ} (s y) 1 0) x xs in
    omega (arith, a, b, c, d, h x, count_three p q r s h xs)

causes_of_one : (m s d : Bool) → cond {A = ℕ} m 1 0 ≡ cond (m && (not s && not d)) 1 0 + cond (m && s) 1 0 + cond (m && (not s && d)) 1 0
causes_of_one true true d = refl
causes_of_one true false true = refl
causes_of_one true false false = refl
causes_of_one false s d = refl

-- each slot that changes has one cause
pub causes_add_up : (before after : NamedTable) (draining : List Backend) → changed before after ≡ down before after draining + moved before after + drained before after draining
causes_add_up before after draining =
    count_three (is_moved before after)
    (λ slot. is_moved before after slot && (not (stays_up after (named_at before slot)) && not (who_drains draining (named_at before slot))))
    (λ slot. is_moved before after slot && stays_up after (named_at before slot))
    (λ slot. is_moved before after slot && (not (stays_up after (named_at before slot)) && who_drains draining (named_at before slot)))
    (λ slot. causes_of_one (is_moved before after slot) (stays_up after (named_at before slot)) (who_drains draining (named_at before slot))) (range_with_len 0 before.size)

at_place : (b : Backend) (ups : List Backend) (k : ℕ) (u : Backend) → k < length ups → u ≡ get_or ups k u → name_alike (Some b) (slice_get ups k) ≡ same_backend b u
at_place b ups k u low read = ap (name_alike (Some b)) (slice_get-get_or ups k u low ∙ ap Some (sym read))

-- one more place of a backend
pub slots_more : (b : Backend) (ups : List Backend) (owners counts : List ℕ) (k slots x : ℕ) (u : Backend) → counts ≡ all_slots_of (length ups) owners → length owners ≤ 65537 → k < length ups →
    u ≡ get_or ups k u → same_backend b u ≡ true → x ≡ get_or counts k x → slots ≡ count_by (taken_below b ups k) owners →
    (slots + x ≡ count_by (taken_below b ups (k + 1)) owners) × (slots + x ≤ 65537)
slots_more b ups owners counts k slots x u are few low read same count held =
    let here = place_yes b ups owners k (at_place b ups k u low read ∙ same) in
    let x_is = count_read ups owners counts k x are low count in
    let most = count_by-le-length (taken_below b ups (k + 1)) owners in
    (omega (arith, here, x_is, held), omega (arith, here, x_is, held, most, few))

-- one more place of another one
pub slots_kept : (b : Backend) (ups : List Backend) (owners : List ℕ) (k slots : ℕ) (u : Backend) → k < length ups → u ≡ get_or ups k u → same_backend b u ≡ false → slots ≡ count_by (taken_below b ups k) owners →
    slots ≡ count_by (taken_below b ups (k + 1)) owners
slots_kept b ups owners k slots u low read other held = held ∙ sym (place_no b ups owners k (at_place b ups k u low read ∙ other))

-- so many slots at most
pub few_slots : (b : Backend) (ups : List Backend) (owners : List ℕ) (k slots : ℕ) → length owners ≤ 65537 → slots ≡ count_by (taken_below b ups k) owners → slots ≤ 65537
few_slots b ups owners k slots few held = omega (arith, few, held, count_by-le-length (taken_below b ups k) owners)

-- as many counts as backends
pub as_many_counts : (ups : List Backend) (owners counts : List ℕ) → counts ≡ all_slots_of (length ups) owners → length counts ≡ length ups
as_many_counts ups owners counts are = ap length are ∙ length-map-range_with_len (λ who. slots_of who owners) 0 (length ups)

-- a table of nobody
pub nobody_up : (size : ℕ) (ups : List Backend) (owners : List ℕ) → length ups ≡ 0 → size ≡ slots_naming None (record { size = size; ups = ups; owners = owners })
nobody_up size [] owners none = all_name_nobody size owners
nobody_up size (u ∷ us) owners none = absurd (omega (arith, none))

-- and one of somebody
pub somebody_up : (size : ℕ) (ups : List Backend) (owners : List ℕ) → 0 < length ups → ((ups ≡ [] → ⊥) → length owners ≡ size) → All (λ place. place < length ups) owners →
    0 ≡ slots_naming None (record { size = size; ups = ups; owners = owners })
somebody_up size [] owners some long named = absurd (omega (arith, some))
somebody_up size (u ∷ us) owners some long named =
    let apart : u ∷ us ≡ [] → ⊥ = λ e. absurd cc in
    none_names_nobody size (u ∷ us) owners apart (long apart) named

-- Maglev's slots, where somebody is up and where nobody is
pub slots_of_some : (plain : List ℕ → ℕ) (size : ℕ) (ups : List Backend) (weights : List ℕ) → 0 < length ups → weighted_maglev (preferences plain size ups) weights size ≡ slots_among plain size ups weights
unfolding slots_among
slots_of_some plain size [] weights some = absurd (omega (arith, some))
slots_of_some plain size (u ∷ us) weights some = refl

pub slots_of_none : (plain : List ℕ → ℕ) (size : ℕ) (ups : List Backend) (weights : List ℕ) → length ups ≡ 0 → [] ≡ slots_among plain size ups weights
unfolding slots_among
slots_of_none plain size [] weights none = refl
slots_of_none plain size (u ∷ us) weights none = absurd (omega (arith, none))

pub above_zero : (n : ℕ) → (n == 0) ≡ false → 0 < n
above_zero zero h = absurd (true≢false h)
above_zero (suc n) h = omega arith

at_any : (b : Backend) (ups : List Backend) (k : ℕ) → k < length ups → name_alike (Some b) (slice_get ups k) ≡ same_backend b (get_or ups k b)
at_any b ups k low = ap (name_alike (Some b)) (slice_get-get_or ups k b low)

-- the places before a place have no slots of a backend that none of them is
pub none_before : (b : Backend) (ups : List Backend) (owners : List ℕ) (n : ℕ) → n ≤ length ups → ((k : ℕ) (d : Backend) → k < n → same_backend b (get_or ups k d) ≡ false) →
    0 ≡ count_by (taken_below b ups n) owners
none_before b ups owners n within apart = sym (count_none (taken_below b ups n) owners (λ o. elim (cases_lt o n) [
  | inl low ↦ ap (λ (t : Bool). nat_lt o n && t) (at_any b ups o (omega arith) ∙ apart o b low) ∙ and_false (nat_lt o n)
  | inr high ↦ ap (λ (t : Bool). t && name_alike (Some b) (slice_get ups o)) (lt_false o n high)
]))

behind_at : (b : Backend) (ups : List Backend) (n : ℕ) → n ≤ length ups → ((k : ℕ) (d : Backend) → n ≤ k → k < length ups → same_backend b (get_or ups k d) ≡ false) → (o : ℕ) →
    taken_below b ups n o ≡ taken_below b ups (length ups) o
behind_at b ups n within apart o = elim (cases_lt o n) [
  | inl low ↦ ap (λ (t : Bool). t && name_alike (Some b) (slice_get ups o)) (lt_true o n low ∙ sym (lt_true o (length ups) (omega arith)))
  | inr high ↦ elim (cases_lt o (length ups)) [
    | inl inside ↦
        let miss : name_alike (Some b) (slice_get ups o) ≡ false = at_any b ups o inside ∙ apart o b high inside in
        ap (λ (t : Bool). nat_lt o n && t) miss ∙ and_false (nat_lt o n) ∙ sym (ap (λ (t : Bool). nat_lt o (length ups) && t) miss ∙ and_false (nat_lt o (length ups)))
    | inr outside ↦ ap (λ (t : Bool). t && name_alike (Some b) (slice_get ups o)) (lt_false o n high ∙ sym (lt_false o (length ups) outside))
  ]
]

-- and those from a place on
pub none_behind : (b : Backend) (ups : List Backend) (owners : List ℕ) (n : ℕ) → n ≤ length ups → ((k : ℕ) (d : Backend) → n ≤ k → k < length ups → same_backend b (get_or ups k d) ≡ false) →
    count_by (taken_below b ups n) owners ≡ count_by (taken_below b ups (length ups)) owners
none_behind b ups owners n within apart = count_same (taken_below b ups n) (taken_below b ups (length ups)) owners (λ i d inside. behind_at b ups n within apart (get_or owners i d))
