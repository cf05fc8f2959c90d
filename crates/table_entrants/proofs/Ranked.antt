-- Names in order of bytes.
use Rattle.std.proofs.Common.{rules, subst, ◌&&◌, IsPermutation, ◌≡◌, ℕ, zero, suc, ◌+◌, ◌-◌, ◌<◌, ◌≤◌, ◌≢◌, ◌==◌, Bool, true, false, not, ⊎_elim, Ordering, Less, Equal, Greater, refl, sym, ◌∙◌, ap, arith, add-one, List, [], ◌∷◌, ◌++◌, map, length, get_or}
use denote.Param.Members.{Mut}
use denote.Ref.{Bor}
use Rattle.std.specs.Cmp.{IsStrictWeakOrder}
use Rattle.std.specs.Cmp.Lexicographic.{slice_cmp}
use Rattle.std.specs.Fn.{Called, ComparesAs}
use Rattle.std.specs.Ordering.{nat_cmp, ordering_index, eq_by_cmp, is_lt, ordering_reverse}
use Rattle.std.specs.List.{list_all, range_with_len, IsDistinct, AllByRecursion}
use Rattle.std.specs.List.Sorted.{IsSortedBy, IsStrictlySortedBy}
use Rattle.std.specs.Str.{bytes_eq}
use Rattle.std.specs.FinMap.{slice_cmp-IsAntisymmetric, nat_cmp-IsAntisymmetric}
use Rattle.std.proofs.lemmas.Bool.{cases_eq, false≢true}
use Rattle.std.proofs.lemmas.Cmp.{nat_list_cmp_total, nat_list_eq_equiv}
use Rattle.std.proofs.lemmas.Fn.{always_returns_same}
use Rattle.std.proofs.lemmas.List.{get_or-map, length-map, ext_get_or}
use Rattle.std.proofs.lemmas.List.Sorted.{ranks_by, IsPermutation-map, IsPermutation-sym, length_permutation}
use Rattle.std.proofs.lemmas.Map.Keys.{IsDistinct-from_sorted, IsDistinct-IsPermutation}
use Rattle.std.proofs.lemmas.Map.Text.{is_eq-slice_cmp}
use Rattle.std.proofs.lemmas.List.FromFn.{length-map-range_with_len, get_or-map-range_with_len, map-range_with_len_more}
use Rattle.table_entrants.specs.Ranking.{names_of, entered, entrants_by, IsRanked, AreDistinct}
use Rattle.table_entrants.specs.declared.entrant.Entrant.{Entrant}

abbrev pub nobody : Entrant
nobody = record { name = []; weight = 1; place = 0 }

-- whether the first one's name is below
abbrev pub by_name : Entrant → Entrant → Bool
by_name a b = is_lt (slice_cmp nat_cmp a.name b.name)

pub by_name_is_order : IsStrictWeakOrder by_name
by_name_is_order = ranks_by nat_list_cmp_total (λ (n : Entrant). n.name)

-- a closure that compares by name answers by that order
pub compares_by_name : {F : Type 0} {g : Mut F (Bor Entrant × (Bor Entrant × Unit {0})) Ordering} {f : F} → ((a : Bor Entrant × (Bor Entrant × Unit {0})) (r : Ordering) (f' : F) → Called g f a r f' → (r ≡ slice_cmp nat_cmp a.0.now.name a.1.0.now.name) × (f' ≡ f)) →
    ComparesAs g by_name f
compares_by_name {g = g} {f = f} h = always_returns_same g (λ a r. is_lt r ≡ by_name a.0.now a.1.0.now) f (λ a r f' k. (ap is_lt (h a r f' k).0, (h a r f' k).1))

-- the names of sorted entrants are sorted
pub sorted_names : (es : List Entrant) (i : ℕ) → IsSortedBy by_name es → suc i < length es
    → is_lt (slice_cmp nat_cmp (get_or (names_of es) (suc i) []) (get_or (names_of es) i [])) ≡ false
sorted_names es i s low =
    let next : get_or (names_of es) (suc i) [] ≡ (get_or es (suc i) nobody).name = get_or-map (λ (n : Entrant). n.name) es (suc i) nobody [] low in
    let this : get_or (names_of es) i [] ≡ (get_or es i nobody).name = get_or-map (λ (n : Entrant). n.name) es i nobody [] (omega arith) in
    let h : by_name (get_or es (i + 1) nobody) (get_or es i nobody) ≡ false = s i nobody (omega arith) (omega arith) in
    rw (next, this) (subst (λ (k : ℕ). by_name (get_or es k nobody) (get_or es i nobody) ≡ false) (add-one i) h)

-- a name, as the code reads it
pub read_name : (es : List Entrant) (i : ℕ) (e : Entrant) → i < length es → (get_or es i e).name ≡ get_or (names_of es) i []
read_name es i e h = sym (get_or-map (λ (n : Entrant). n.name) es i e [] h)

pub is_less : (o : Ordering) → false ≡ not (ordering_index o == 0) → o ≡ Less
is_less Less h = refl
is_less Equal h = absurd (false≢true h)
is_less Greater h = absurd (false≢true h)

pub not_less : (o : Ordering) → not (ordering_index o == 0) ≡ true → o ≢ Less
not_less Less h e = false≢true h
not_less Equal h e = let bad : Equal ≡ Less = e in absurd (cc)
not_less Greater h e = let bad : Greater ≡ Less = e in absurd (cc)

pub ascending_more : (texts : List (List ℕ)) (place : ℕ) (a b : List ℕ) → 1 ≤ place → a ≡ get_or texts (place - 1) [] → b ≡ get_or texts place [] → slice_cmp nat_cmp a b ≡ Less
    → ((i : ℕ) → suc i < place → slice_cmp nat_cmp (get_or texts i []) (get_or texts (suc i) []) ≡ Less)
    → (i : ℕ) → suc i < place + 1 → slice_cmp nat_cmp (get_or texts i []) (get_or texts (suc i) []) ≡ Less
ascending_more texts place a b one ea eb less before i h =
    ⊎_elim
    (λ (same : suc i ≡ place).
    let low : place - 1 ≡ i = omega arith in
    let x : a ≡ get_or texts i [] = ea ∙ ap (λ (k : ℕ). get_or texts k []) low in
    let y : b ≡ get_or texts (suc i) [] = eb ∙ ap (λ (k : ℕ). get_or texts k []) (sym same) in
    rw (← x, ← y) less)
    (λ (other : suc i ≢ place). before i (omega arith))
    (cases_eq (suc i) place)

below_all : (x : List ℕ) (y : List ℕ) (ys : List (List ℕ)) → slice_cmp nat_cmp x y ≡ Less → AllByRecursion (λ z. slice_cmp nat_cmp y z ≡ Less) ys → AllByRecursion (λ z. slice_cmp nat_cmp x z ≡ Less) ys
below_all x y [] h a = a
below_all x y (z ∷ zs) h a = (nat_list_cmp_total.trans x y z h a.0, below_all x y zs h a.1)

-- names that ascend step by step are strictly sorted
strictly : (xs : List (List ℕ)) → ((i : ℕ) → suc i < length xs → slice_cmp nat_cmp (get_or xs i []) (get_or xs (suc i) []) ≡ Less) → IsStrictlySortedBy (slice_cmp nat_cmp) xs
unfolding IsStrictlySortedBy
strictly [] h = search rules
strictly (x ∷ []) h = search rules
strictly (x ∷ y ∷ ys) h =
    let rest = strictly (y ∷ ys) (λ i l. h (suc i) (omega arith)) in
    let first : slice_cmp nat_cmp x y ≡ Less = h 0 (omega arith) in
    ((first, below_all x y ys first rest.0), rest)

each_same : (x : List ℕ) (xs : List (List ℕ)) → AllByRecursion (λ y. eq_by_cmp (slice_cmp nat_cmp) x y ≡ false) xs → AllByRecursion (λ y. bytes_eq x y ≡ false) xs
each_same x [] h = h
each_same x (y ∷ ys) h = (sym (is_eq-slice_cmp x y) ∙ h.0, each_same x ys h.1)

same_tests : (xs : List (List ℕ)) → IsDistinct (eq_by_cmp (slice_cmp nat_cmp)) xs → IsDistinct bytes_eq xs
unfolding IsDistinct
same_tests [] h = h
same_tests (x ∷ xs) h = (each_same x xs h.0, same_tests xs h.1)

flips : (x y : List ℕ) → bytes_eq x y ≡ bytes_eq y x
flips x y = nat_list_eq_equiv.symm x y

-- names of which some in strict order are a permutation are distinct
distinct_words : (words sorted : List (List ℕ)) → IsPermutation words sorted → ((i : ℕ) → suc i < length sorted → slice_cmp nat_cmp (get_or sorted i []) (get_or sorted (suc i) []) ≡ Less) → IsDistinct bytes_eq words
distinct_words words sorted perm up =
    IsDistinct-IsPermutation bytes_eq flips sorted words (IsPermutation-sym words sorted perm) (same_tests sorted (IsDistinct-from_sorted (slice_cmp nat_cmp) sorted (strictly sorted up)))

apart_next : (xs : List (List ℕ)) (i : ℕ) → IsDistinct bytes_eq xs → suc i < length xs → bytes_eq (get_or xs i []) (get_or xs (suc i) []) ≡ false
unfolding IsDistinct
apart_next [] i h l = absurd (omega arith)
apart_next (x ∷ []) i h l = absurd (omega arith)
apart_next (x ∷ y ∷ ys) zero h l = h.0.0
apart_next (x ∷ y ∷ ys) (suc i) h l = apart_next (y ∷ ys) i h.1 (omega arith)

double_words : (words sorted : List (List ℕ)) (i : ℕ) → IsPermutation words sorted → suc i < length sorted → get_or sorted i [] ≡ get_or sorted (suc i) [] → IsDistinct bytes_eq words → ⊥
double_words words sorted i perm low same distinct =
    let a = apart_next sorted i (IsDistinct-IsPermutation bytes_eq flips words sorted perm distinct) low in
    let b : bytes_eq (get_or sorted i []) (get_or sorted (suc i) []) ≡ true = subst (λ (x : List ℕ). bytes_eq (get_or sorted i []) x ≡ true) same (nat_list_eq_equiv.refl (get_or sorted i [])) in
    false≢true (sym a ∙ b)

tie_step : (x y : List ℕ) (o : Ordering) → slice_cmp nat_cmp x y ≡ o → is_lt (slice_cmp nat_cmp y x) ≡ false → o ≢ Less → x ≡ y
tie_step x y Less e a b = absurd (b refl)
tie_step x y Equal e a b = slice_cmp-IsAntisymmetric nat_cmp-IsAntisymmetric x y e
tie_step x y Greater e a b = let r : slice_cmp nat_cmp y x ≡ Less = nat_list_cmp_total.antisymm y x ∙ ap ordering_reverse e in absurd (false≢true (sym a ∙ ap is_lt r))

-- neighbours of a sorted list that don't ascend are equal
tie : (x y : List ℕ) → is_lt (slice_cmp nat_cmp y x) ≡ false → slice_cmp nat_cmp x y ≢ Less → x ≡ y
tie x y a b = tie_step x y (slice_cmp nat_cmp x y) refl a b

-- the name at a place, with its weight and its place
abbrev entrant_by : (ℕ → List ℕ) → (ℕ → ℕ) → ℕ → Entrant
entrant_by name weight i = record { name = name i; weight = weight i; place = i }

-- one more name is entered behind those before it
pub one_entered : (name : ℕ → List ℕ) (weight : ℕ → ℕ) (n : ℕ) (es new : List Entrant) (a : List ℕ) (w : ℕ) → es ≡ entrants_by name weight n → new ≡ entered es a w → a ≡ name n → w ≡ weight n
    → new ≡ entrants_by name weight (n + 1)
one_entered name weight n es new a w held made ea ew =
    let f = entrant_by name weight in
    let many : length es ≡ n = ap length held ∙ length-map-range_with_len f 0 n in
    let one : record { name = a; weight = w; place = length es } ≡ f n = rw (ea, ew, many) refl in
    made ∙ ap (λ (e : Entrant). es ++ e ∷ []) one ∙ ap (λ (xs : List Entrant). xs ++ f n ∷ []) held ∙ sym (map-range_with_len_more f 0 n n (omega arith))

-- so many as were given
pub many_given : (name : ℕ → List ℕ) (weight : ℕ → ℕ) (n : ℕ) → length (entrants_by name weight n) ≡ n
many_given name weight n = length-map-range_with_len (entrant_by name weight) 0 n

-- names that are numbered in turn
pub named_in_turn : (name : ℕ → List ℕ) (weight : ℕ → ℕ) (n : ℕ) (names : List (List ℕ)) → length names ≡ n → ((i : ℕ) → i < n → name i ≡ get_or names i []) → names_of (entrants_by name weight n) ≡ names
named_in_turn name weight n names len each =
    let f = entrant_by name weight in
    let es : List Entrant = map f (range_with_len 0 n) in
    let many : length es ≡ n = length-map-range_with_len f 0 n in
    let all : length (names_of es) ≡ length es = length-map es (λ (e : Entrant). e.name) in
    ext_get_or [] (names_of es) names (omega arith)
    (λ i l. get_or-map (λ (e : Entrant). e.name) es i nobody [] (omega arith)
    ∙ ap (λ (e : Entrant). e.name) (get_or-map-range_with_len f 0 n i i nobody (omega arith) (omega arith)) ∙ each i (omega arith))

-- the names, in another order
names_moved : (given es : List Entrant) → IsPermutation given es → IsPermutation (names_of given) (names_of es)
names_moved given es moved = IsPermutation-map (λ (n : Entrant). n.name) given es moved

pub distinct_names : (given es : List Entrant) → IsRanked given es → AreDistinct (names_of given)
distinct_names given es r =
    let len : length (names_of es) ≡ length es = length-map es (λ (n : Entrant). n.name) in
    distinct_words (names_of given) (names_of es) (names_moved given es r.permutation) (λ i l. r.ascending i (omega arith))

pub double_names : (given es : List Entrant) (i : ℕ) → IsPermutation given es → IsSortedBy by_name es → suc i < length es
    → slice_cmp nat_cmp (get_or (names_of es) i []) (get_or (names_of es) (suc i) []) ≢ Less → AreDistinct (names_of given) → ⊥
double_names given es i moved sorted low apart =
    let len : length (names_of es) ≡ length es = length-map es (λ (n : Entrant). n.name) in
    double_words (names_of given) (names_of es) i (names_moved given es moved) (omega arith) (tie _ _ (sorted_names es i sorted low) apart)

pub many_ranked : (given es : List Entrant) → IsRanked given es → length es ≡ length given
many_ranked given es r = length_permutation _ _ r.permutation

and_here : (a b : Bool) → (a && b) ≡ true → a ≡ true
and_here true b h = refl
and_here false b h = absurd (false≢true h)

and_there : (a b : Bool) → (a && b) ≡ true → b ≡ true
and_there true b h = h
and_there false b h = absurd (false≢true h)

-- a word of some that are all names is one
pub all_named : {X : Type 0} (test : List ℕ → Bool) (f : X → List ℕ) (ws : List X) → list_all test (map f ws) ≡ true → (k : ℕ) (d : X) → k < length ws → test (f (get_or ws k d)) ≡ true
all_named test f [] h k d l = absurd (omega arith)
all_named test f (w ∷ ws) h zero d l = and_here (test (f w)) _ h
all_named test f (w ∷ ws) h (suc k) d l = all_named test f ws (and_there (test (f w)) _ h) k d (omega arith)
