-- The counts after one packet more.
use Rattle.std.proofs.Common.{◌≡◌, ℕ, ◌+◌, ◌≤◌, Bool, true, false, cond, List, [], ◌∷◌, ◌++◌, map, length, refl, sym, ap, ◌∙◌, subst, arith, Option, Some}
use Rattle.std.specs.Prelude.{count_by, filter, ◌||◌, if◌then◌else◌, unwrap_or}
use Rattle.std.specs.List.{list_any, IsDistinct, AllByRecursion}
use Rattle.std.specs.Map.{lookup}
use Rattle.std.proofs.lemmas.List.Sums.{sum_by-cons, sum_by_push, count_by-le-length}
use Rattle.std.proofs.lemmas.Simd.{map-map}
use Rattle.indexmap.specs.IndexMap.{insert_entry}
use Rattle.pool_versions.specs.declared.key.ServiceKey.{ServiceKey}
use Rattle.pool_versions.specs.Pool.{same_key}
use Rattle.scenario_sketch.specs.Counts.{destinations_among, is_busy, busy}
use Rattle.scenario_sketch.specs.Entries.{count_entries, counted_in}
use Rattle.scenario_sketch.proofs.Keys.{same_key-true, same_key-refl, same_key-flip, among_once, once_distinct, once_push}

abbrev pub pairs : (ServiceKey → ℕ) → List ServiceKey → List (ServiceKey × ℕ)
pairs g ks = map (λ k. (k, g k)) ks

lookup_pairs_cases : (g : ServiceKey → ℕ) (d k : ServiceKey) (ks : List ServiceKey) (v : Bool) → same_key d k ≡ v
    → unwrap_or (lookup (same_key d) (pairs g ks)) 0 ≡ (if list_any (same_key d) ks then g d else 0)
    → unwrap_or (cond v (Some (g k)) (lookup (same_key d) (pairs g ks))) 0 ≡ (if (v || list_any (same_key d) ks) then g d else 0)
lookup_pairs_cases g d k ks true e h = ap g (sym (same_key-true d k e))
lookup_pairs_cases g d k ks false e h = h

lookup_pairs : (g : ServiceKey → ℕ) (d : ServiceKey) (ks : List ServiceKey) → unwrap_or (lookup (same_key d) (pairs g ks)) 0 ≡ (if list_any (same_key d) ks then g d else 0)
lookup_pairs g d [] = refl
lookup_pairs g d (k ∷ ks) = lookup_pairs_cases g d k ks (same_key d k) refl (lookup_pairs g d ks)

none_counted_cases : (v : Bool) (rest : Bool) (n : ℕ) → (rest ≡ false → n ≡ 0) → (v || rest) ≡ false → cond v 1 0 + n ≡ 0
none_counted_cases true rest n h e = absurd cc
none_counted_cases false rest n h e = omega (arith, h e)

pub none_counted : (p : ServiceKey → Bool) (ds : List ServiceKey) → list_any p ds ≡ false → count_by p ds ≡ 0
none_counted p [] h = refl
none_counted p (x ∷ xs) h = sum_by-cons (λ k. cond (p k) 1 0) x xs ∙ none_counted_cases (p x) (list_any p xs) (count_by p xs) (none_counted p xs) h

count_cases : (d : ServiceKey) (ds : List ServiceKey) (v : Bool) → list_any (same_key d) ds ≡ v → (if v then count_by (same_key d) ds else 0) ≡ count_by (same_key d) ds
count_cases d ds true e = refl
count_cases d ds false e = sym (none_counted (same_key d) ds e)

-- what the map has for a destination is its count
count_found : (d : ServiceKey) (ds : List ServiceKey) → unwrap_or (lookup (same_key d) (count_entries ds)) 0 ≡ count_by (same_key d) ds
count_found d ds =
    lookup_pairs (λ k. count_by (same_key k) ds) d (destinations_among ds)
    ∙ ap (λ (b : Bool). if b then count_by (same_key d) ds else 0) (among_once d ds)
    ∙ count_cases d ds (list_any (same_key d) ds) refl

pub count_read : (d : ServiceKey) (ds : List ServiceKey) (es : List (ServiceKey × ℕ)) (o : Option ℕ) (n : ℕ) → n ≡ unwrap_or o 0 → o ≡ lookup (same_key d) es → es ≡ count_entries ds
    → n ≡ count_by (same_key d) ds
count_read d ds es o n a b e = a ∙ ap (λ (x : Option ℕ). unwrap_or x 0) (b ∙ ap (lookup (same_key d)) e) ∙ count_found d ds

-- other destinations have the counts that they had
same_pairs : (g g' : ServiceKey → ℕ) (d : ServiceKey) → ((k : ServiceKey) → same_key d k ≡ false → g' k ≡ g k) → (ks : List ServiceKey)
    → AllByRecursion (λ k. same_key d k ≡ false) ks → pairs g ks ≡ pairs g' ks
same_pairs g g' d h [] a = refl
same_pairs g g' d h (k ∷ ks) a = cc (h k a.0, same_pairs g g' d h ks a.1)

if_cons : (p : ServiceKey × ℕ) (b : Bool) (g : ServiceKey → ℕ) (k : ServiceKey) (ks more : List ServiceKey) → p ≡ (k, g k)
    → p ∷ pairs g (if b then ks else ks ++ more) ≡ pairs g (if b then k ∷ ks else (k ∷ ks) ++ more)
if_cons p true g k ks more e = ap (λ (q : ServiceKey × ℕ). q ∷ pairs g ks) e
if_cons p false g k ks more e = ap (λ (q : ServiceKey × ℕ). q ∷ pairs g (ks ++ more)) e

apart_both : (d k : ServiceKey) (ks : List ServiceKey) → same_key d k ≡ true → AllByRecursion (λ z. same_key k z ≡ false) ks → AllByRecursion (λ z. same_key d z ≡ false) ks
apart_both d k ks e a = subst (λ (y : ServiceKey). AllByRecursion (λ z. same_key y z ≡ false) ks) (sym (same_key-true d k e)) a

insert_pairs_cases : (g g' : ServiceKey → ℕ) (d k : ServiceKey) (ks : List ServiceKey) (v : Bool) → same_key d k ≡ v
    → ((z : ServiceKey) → same_key d z ≡ false → g' z ≡ g z) → AllByRecursion (λ z. same_key k z ≡ false) ks
    → insert_entry same_key (pairs g ks) d (g' d) ≡ pairs g' (if list_any (same_key d) ks then ks else ks ++ d ∷ [])
    → (if v then (k, g' d) ∷ pairs g ks else (k, g k) ∷ insert_entry same_key (pairs g ks) d (g' d)) ≡ pairs g' (if (v || list_any (same_key d) ks) then k ∷ ks else (k ∷ ks) ++ d ∷ [])
insert_pairs_cases g g' d k ks true e h a ih =
    ap (λ (n : ℕ). (k, n) ∷ pairs g ks) (ap g' (same_key-true d k e))
    ∙ ap (λ (l : List (ServiceKey × ℕ)). (k, g' k) ∷ l) (same_pairs g g' d h ks (apart_both d k ks e a))
insert_pairs_cases g g' d k ks false e h a ih =
    ap (λ (l : List (ServiceKey × ℕ)). (k, g k) ∷ l) ih ∙ if_cons (k, g k) (list_any (same_key d) ks) g' k ks (d ∷ []) (ap (λ (n : ℕ). (k, n)) (sym (h k e)))

insert_pairs : (g g' : ServiceKey → ℕ) (d : ServiceKey) → ((z : ServiceKey) → same_key d z ≡ false → g' z ≡ g z) → (ks : List ServiceKey) → IsDistinct same_key ks
    → insert_entry same_key (pairs g ks) d (g' d) ≡ pairs g' (if list_any (same_key d) ks then ks else ks ++ d ∷ [])
unfolding IsDistinct
insert_pairs g g' d h [] a = refl
insert_pairs g g' d h (k ∷ ks) a = insert_pairs_cases g g' d k ks (same_key d k) refl h a.0 (insert_pairs g g' d h ks a.1)

-- a count after one packet more
count_push : (d k : ServiceKey) (ds : List ServiceKey) → count_by (same_key k) (ds ++ d ∷ []) ≡ count_by (same_key k) ds + cond (same_key k d) 1 0
count_push d k ds = sum_by_push (λ z. cond (same_key k z) 1 0) ds d

count_other : (d : ServiceKey) (ds : List ServiceKey) (k : ServiceKey) → same_key d k ≡ false → count_by (same_key k) (ds ++ d ∷ []) ≡ count_by (same_key k) ds
count_other d ds k e =
    count_push d k ds ∙ ap (λ (b : Bool). count_by (same_key k) ds + cond b 1 0) (same_key-flip k d ∙ e) ∙ (let z : count_by (same_key k) ds + 0 ≡ count_by (same_key k) ds = omega arith in z)

count_same : (d : ServiceKey) (ds : List ServiceKey) (n : ℕ) → n ≡ count_by (same_key d) ds → n + 1 ≡ count_by (same_key d) (ds ++ d ∷ [])
count_same d ds n e = ap (λ (k : ℕ). k + 1) e ∙ ap (λ (b : Bool). count_by (same_key d) ds + cond b 1 0) (sym (same_key-refl d)) ∙ sym (count_push d d ds)

-- the counts after one packet more
pub counted_more : (d : ServiceKey) (ds : List ServiceKey) (n : ℕ) → n ≡ count_by (same_key d) ds → insert_entry same_key (count_entries ds) d (n + 1) ≡ count_entries (ds ++ d ∷ [])
counted_more d ds n e =
    ap (insert_entry same_key (count_entries ds) d) (count_same d ds n e)
    ∙ insert_pairs (λ k. count_by (same_key k) ds) (λ k. count_by (same_key k) (ds ++ d ∷ [])) d (count_other d ds) (destinations_among ds) (once_distinct ds)
    ∙ ap (λ (b : Bool). pairs (λ k. count_by (same_key k) (ds ++ d ∷ [])) (if b then destinations_among ds else destinations_among ds ++ d ∷ [])) (among_once d ds)
    ∙ ap (pairs (λ k. count_by (same_key k) (ds ++ d ∷ []))) (sym (once_push d ds))

pub few_counted : (d : ServiceKey) (ds : List ServiceKey) → count_by (same_key d) ds ≤ length ds
few_counted d ds = count_by-le-length (same_key d) ds

-- the entries as counts
pub busy_from : (ds all : List ServiceKey) (es : List (ServiceKey × ℕ)) → es ≡ count_entries ds → ds ≡ all → filter is_busy (map counted_in es) ≡ busy all
busy_from ds all es e same =
    ap (λ (xs : List (ServiceKey × ℕ)). filter is_busy (map counted_in xs)) e
    ∙ ap (filter is_busy) (map-map counted_in (λ k. (k, count_by (same_key k) ds)) (destinations_among ds))
    ∙ ap busy same
