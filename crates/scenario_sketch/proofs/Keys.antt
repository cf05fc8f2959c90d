-- Destinations that are equal, and each of some destinations once.
use Rattle.std.proofs.Common.{◌≡◌, Bool, true, false, not, cond, List, [], ◌∷◌, ◌++◌, refl, sym, ap, ◌∙◌, subst, arith, rules, append-nil}
use Rattle.std.specs.Prelude.{filter, ◌||◌, if◌then◌else◌}
use Rattle.std.specs.List.{list_any, IsDistinct, AllByRecursion}
use Rattle.std.proofs.lemmas.Bool.Decides.{nat_tests}
use Rattle.std.proofs.lemmas.Map.Views.{any-filter_same}
use Rattle.std.proofs.lemmas.List.Elements.{filter-append}
use Rattle.pool_versions.specs.declared.key.ServiceKey.{ServiceKey}
use Rattle.pool_versions.specs.Pool.{same_key}
use Rattle.scenario_sketch.specs.Counts.{destinations_among}

pub same_key-true : (a b : ServiceKey) → same_key a b ≡ true → a ≡ b
same_key-true a b h =
    let e1 : a.vip ≡ b.vip = grind (arith, nat_tests) in
    let e2 : a.proto ≡ b.proto = grind (arith, nat_tests) in
    let e3 : a.port ≡ b.port = grind (arith, nat_tests) in
    let f : a ≡ record { vip = a.vip; proto = a.proto; port = a.port } = refl in
    let g : b ≡ record { vip = b.vip; proto = b.proto; port = b.port } = refl in
    cc

pub same_key-refl : (a : ServiceKey) → same_key a a ≡ true
same_key-refl a = grind (arith, nat_tests)

pub same_key-flip : (a b : ServiceKey) → same_key a b ≡ same_key b a
same_key-flip a b = grind (arith, nat_tests)

-- what is equal to another one is not equal to what that isn't
pub same_key-other : (a b c : ServiceKey) → same_key a b ≡ true → same_key b c ≡ false → same_key a c ≡ false
same_key-other a b c h k = subst (λ (f : ServiceKey). same_key f c ≡ false) (sym (same_key-true a b h)) k

-- those that differ from one
abbrev pub others : ServiceKey → List ServiceKey → List ServiceKey
others x ks = filter (λ k. not (same_key x k)) ks

-- what is left out isn't what is looked for
kept_by : (d x : ServiceKey) → same_key d x ≡ false → (k : ServiceKey) → same_key d k ≡ true → not (same_key x k) ≡ true
kept_by d x h k e = ap not (subst (λ (y : ServiceKey). same_key x y ≡ false) (same_key-true d k e) (same_key-flip x d ∙ h))

among_more : (d x : ServiceKey) (ks all : List ServiceKey) (v : Bool) → same_key d x ≡ v → list_any (same_key d) ks ≡ list_any (same_key d) all
    → (v || list_any (same_key d) (others x ks)) ≡ (v || list_any (same_key d) all)
among_more d x ks all true e h = refl
among_more d x ks all false e h = any-filter_same (same_key d) (λ k. not (same_key x k)) true (kept_by d x e) ks ∙ h

-- a destination is among those that are there once exactly where it is among all
pub among_once : (d : ServiceKey) (ds : List ServiceKey) → list_any (same_key d) (destinations_among ds) ≡ list_any (same_key d) ds
among_once d [] = refl
among_once d (x ∷ xs) = among_more d x (destinations_among xs) xs (same_key d x) refl (among_once d xs)

filter_apart_cases : (y k : ServiceKey) (b : Bool) (ks : List ServiceKey) → same_key y k ≡ false → AllByRecursion (λ z. same_key y z ≡ false) ks
    → AllByRecursion (λ z. same_key y z ≡ false) (cond b (k ∷ ks) ks)
filter_apart_cases y k true ks e h = (e, h)
filter_apart_cases y k false ks e h = h

filter_apart : (y : ServiceKey) (p : ServiceKey → Bool) (ks : List ServiceKey) → AllByRecursion (λ k. same_key y k ≡ false) ks → AllByRecursion (λ k. same_key y k ≡ false) (filter p ks)
filter_apart y p [] h = h
filter_apart y p (k ∷ ks) h = filter_apart_cases y k (p k) (filter p ks) h.0 (filter_apart y p ks h.1)

filter_distinct_cases : (k : ServiceKey) (b : Bool) (ks : List ServiceKey) → AllByRecursion (λ z. same_key k z ≡ false) ks → IsDistinct same_key ks → IsDistinct same_key (cond b (k ∷ ks) ks)
unfolding IsDistinct
filter_distinct_cases k true ks e h = (e, h)
filter_distinct_cases k false ks e h = h

filter_distinct : (p : ServiceKey → Bool) (ks : List ServiceKey) → IsDistinct same_key ks → IsDistinct same_key (filter p ks)
unfolding IsDistinct
filter_distinct p [] h = h
filter_distinct p (k ∷ ks) h = filter_distinct_cases k (p k) (filter p ks) (filter_apart k p ks h.0) (filter_distinct p ks h.1)

others_apart_cases : (x k : ServiceKey) (b : Bool) (ks : List ServiceKey) → same_key x k ≡ b → AllByRecursion (λ z. same_key x z ≡ false) ks
    → AllByRecursion (λ z. same_key x z ≡ false) (cond (not b) (k ∷ ks) ks)
others_apart_cases x k true ks e h = h
others_apart_cases x k false ks e h = (e, h)

pub others_apart : (x : ServiceKey) (ks : List ServiceKey) → AllByRecursion (λ k. same_key x k ≡ false) (others x ks)
others_apart x [] = search rules
others_apart x (k ∷ ks) = others_apart_cases x k (same_key x k) (others x ks) refl (others_apart x ks)

-- each is there once
pub once_distinct : (ds : List ServiceKey) → IsDistinct same_key (destinations_among ds)
unfolding IsDistinct
once_distinct [] = search rules
once_distinct (x ∷ xs) = (others_apart x (destinations_among xs), filter_distinct (λ k. not (same_key x k)) (destinations_among xs) (once_distinct xs))

others_push : (d x : ServiceKey) (ks : List ServiceKey) (v : Bool) → same_key x d ≡ v → others x (ks ++ d ∷ []) ≡ (if v then others x ks else others x ks ++ d ∷ [])
others_push d x ks true e = filter-append (λ k. not (same_key x k)) ks (d ∷ []) ∙ ap (λ (b : Bool). others x ks ++ cond (not b) (d ∷ []) []) e ∙ append-nil (others x ks)
others_push d x ks false e = filter-append (λ k. not (same_key x k)) ks (d ∷ []) ∙ ap (λ (b : Bool). others x ks ++ cond (not b) (d ∷ []) []) e

once_push_cases : (d x : ServiceKey) (new ks : List ServiceKey) (v w : Bool) → same_key x d ≡ v → new ≡ (if w then ks else ks ++ d ∷ [])
    → x ∷ others x new ≡ (if (v || w) then x ∷ others x ks else (x ∷ others x ks) ++ d ∷ [])
once_push_cases d x new ks true true e h = ap (λ (l : List ServiceKey). x ∷ others x l) h
once_push_cases d x new ks false true e h = ap (λ (l : List ServiceKey). x ∷ others x l) h
once_push_cases d x new ks true false e h = ap (λ (l : List ServiceKey). x ∷ others x l) h ∙ ap (λ (l : List ServiceKey). x ∷ l) (others_push d x ks true e)
once_push_cases d x new ks false false e h = ap (λ (l : List ServiceKey). x ∷ others x l) h ∙ ap (λ (l : List ServiceKey). x ∷ l) (others_push d x ks false e)

-- one packet more
pub once_push : (d : ServiceKey) (ds : List ServiceKey)
    → destinations_among (ds ++ d ∷ []) ≡ (if list_any (same_key d) ds then destinations_among ds else destinations_among ds ++ d ∷ [])
once_push d [] = refl
once_push d (x ∷ xs) = once_push_cases d x (destinations_among (xs ++ d ∷ [])) (destinations_among xs) (same_key d x) (list_any (same_key d) xs) (same_key-flip x d) (once_push d xs)
