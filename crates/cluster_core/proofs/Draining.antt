-- No backend of a service is up and drains, since no two of its members have one name.
use Rattle.std.proofs.Common.{◌≡◌, Bool, true, false, List, [], ◌∷◌, map, refl, sym, ap, ◌∙◌, subst, Contains, inl, inr, not, nat_eq}
use Rattle.std.specs.Prelude.{filter, ◌||◌, ◌&&◌, ◌==◌, if◌then◌else◌}
use Rattle.std.specs.Cmp.Lexicographic.{pointwise}
use Rattle.std.specs.List.{list_any}
use Rattle.std.proofs.lemmas.Bool.{cases_Bool, or_parts, or_cases, or_left, or_right, and_parts, not-true, both_ways, false≢true, false_from_ne_true}
use Rattle.std.proofs.lemmas.List.Folds.{list_any_at}
use Rattle.pool_versions.specs.declared.backend.Backend.{Backend}
use Rattle.pool_versions.specs.declared.backend.Member.{Member}
use Rattle.pool_versions.specs.Pool.{is_below, insert_by_name, ascending_with, has_double, same_name, ups, is_draining, draining_backends}
use Rattle.selection.specs.Readied.{same_backend}
use Rattle.selection.proofs.Among.{same_is, is_same, any_is_contained}

swapped : (a b c : Bool) → (a || (b || c)) ≡ (b || (a || c))
swapped true true c = refl
swapped true false c = refl
swapped false b c = refl

moved_in : (a b c : Bool) → (a || (b || c)) ≡ ((b || a) || c)
moved_in true true c = refl
moved_in true false c = refl
moved_in false true c = refl
moved_in false false c = refl

inserted_any : (p : Member → Bool) (m : Member) (ns : List Member) → list_any p (insert_by_name m ns) ≡ (p m || list_any p ns)
inserted_any p m [] = refl
inserted_any p m (n ∷ ns) = elim (cases_Bool (is_below m.backend.name n.backend.name)) [
  | inl lower ↦ rw lower refl
  | inr higher ↦ rw higher (ap (λ (t : Bool). p n || t) (inserted_any p m ns) ∙ swapped (p n) (p m) (list_any p ns))
]

ascending_any : (p : Member → Bool) (sorted ms : List Member) → list_any p (ascending_with sorted ms) ≡ (list_any p ms || list_any p sorted)
ascending_any p sorted [] = refl
ascending_any p sorted (m ∷ ms) =
    ascending_any p (insert_by_name m sorted) ms
    ∙ ap (λ (t : Bool). list_any p ms || t) (inserted_any p m sorted)
    ∙ moved_in (list_any p ms) (p m) (list_any p sorted)

or_none : (t : Bool) → (t || false) ≡ t
or_none true = refl
or_none false = refl

mapped_any : (b : Backend) (ms : List Member) → list_any (same_backend b) (map (λ m. m.backend) ms) ≡ list_any (λ m. same_backend b m.backend) ms
mapped_any b [] = refl
mapped_any b (m ∷ ms) = ap (λ (t : Bool). same_backend b m.backend || t) (mapped_any b ms)

filtered_any : (test : Member → Bool) (b : Backend) (ms : List Member) → list_any (λ m. same_backend b m.backend) (filter test ms) ≡ list_any (λ m. test m && same_backend b m.backend) ms
filtered_any test b [] = refl
filtered_any test b (m ∷ ms) = go (test m) (filtered_any test b ms)
  where
    go : (t : Bool) → list_any (λ n. same_backend b n.backend) (filter test ms) ≡ list_any (λ n. test n && same_backend b n.backend) ms
        → list_any (λ n. same_backend b n.backend) (if t then m ∷ filter test ms else filter test ms) ≡ ((t && same_backend b m.backend) || list_any (λ n. test n && same_backend b n.backend) ms)
    go true h = ap (λ (t : Bool). same_backend b m.backend || t) h
    go false h = h

-- a backend is among those of the members that pass a test, put in order
pub in_order_any : (test : Member → Bool) (b : Backend) (ms : List Member) → list_any (same_backend b) (map (λ m. m.backend) (ascending_with [] (filter test ms))) ≡ list_any (λ m. test m && same_backend b m.backend) ms
in_order_any test b ms =
    mapped_any b (ascending_with [] (filter test ms))
    ∙ ascending_any (λ m. same_backend b m.backend) [] (filter test ms)
    ∙ or_none (list_any (λ m. same_backend b m.backend) (filter test ms))
    ∙ filtered_any test b ms

-- two of one backend have one name
same_named : (b : Backend) (m n : Member) → same_backend b m.backend ≡ true → same_backend b n.backend ≡ true → same_name m n ≡ true
same_named b m n this that =
    let one : n.backend ≡ m.backend = sym (same_is b n.backend that) ∙ same_is b m.backend this in
    let own : pointwise nat_eq n.backend.name n.backend.name ≡ true = (and_parts (pointwise nat_eq n.backend.name n.backend.name) (n.backend.addr == n.backend.addr) (is_same n.backend)).0 in
    subst (λ (c : Backend). pointwise nat_eq c.name n.backend.name ≡ true) one own

named_twice : (test : Member → Bool) (b : Backend) (m : Member) (ms : List Member) → same_backend b m.backend ≡ true → list_any (λ n. test n && same_backend b n.backend) ms ≡ true → list_any (same_name m) ms ≡ true
named_twice test b m [] this h = absurd (false≢true h)
named_twice test b m (n ∷ ns) this h = elim (or_cases (test n && same_backend b n.backend) (list_any (λ n. test n && same_backend b n.backend) ns) h) [
  | inl here ↦ or_left (same_name m n) (list_any (same_name m) ns) (same_named b m n this (and_parts (test n) (same_backend b n.backend) here).1)
  | inr later ↦ or_right (same_name m n) (list_any (same_name m) ns) (named_twice test b m ns this later)
]

-- one member isn't up and drains
not_both : (m : Member) → m.up ≡ true → is_draining m ≡ true → ⊥
not_both m up drains = both_ways m.up (not-true m.up (and_parts (not m.up) m.draining drains).0) up

disjoint : (b : Backend) (ms : List Member) → has_double same_name ms ≡ false → list_any (λ m. m.up && same_backend b m.backend) ms ≡ true → list_any (λ m. is_draining m && same_backend b m.backend) ms ≡ true → ⊥
disjoint b [] apart up drains = false≢true up
disjoint b (m ∷ ms) apart up drains =
    let parts = or_parts (list_any (same_name m) ms) (has_double same_name ms) apart in
    elim (or_cases (m.up && same_backend b m.backend) (list_any (λ n. n.up && same_backend b n.backend) ms) up) [
      | inl this ↦ elim (or_cases (is_draining m && same_backend b m.backend) (list_any (λ n. is_draining n && same_backend b n.backend) ms) drains) [
        | inl that ↦ not_both m (and_parts m.up (same_backend b m.backend) this).0 (and_parts (is_draining m) (same_backend b m.backend) that).0
        | inr later ↦ both_ways (list_any (same_name m) ms) parts.0 (named_twice is_draining b m ms (and_parts m.up (same_backend b m.backend) this).1 later)
      ]
      | inr later ↦ elim (or_cases (is_draining m && same_backend b m.backend) (list_any (λ n. is_draining n && same_backend b n.backend) ms) drains) [
        | inl that ↦ both_ways (list_any (same_name m) ms) parts.0 (named_twice (λ n. n.up) b m ms (and_parts (is_draining m) (same_backend b m.backend) that).1 later)
        | inr last ↦ disjoint b ms parts.1 later last
      ]
    ]

pub apart : (ms : List Member) (b : Backend) → has_double same_name ms ≡ false → Contains (ups ms) b → Contains (draining_backends ms) b → ⊥
apart ms b none up drains = disjoint b ms none
    (sym (in_order_any (λ m. m.up) b ms) ∙ (any_is_contained b (ups ms)).1 up)
    (sym (in_order_any is_draining b ms) ∙ (any_is_contained b (draining_backends ms)).1 drains)

-- where a test finds nobody, nobody passes it
pub none_of : {X : Type 0} (p : X → Bool) (xs : List X) (x : X) → list_any p xs ≡ false → Contains xs x → p x ≡ false
none_of {X} p xs x none inside = false_from_ne_true (p x) (λ yes. both_ways (list_any p xs) none (list_any_at p xs inside.0 x inside.1 (subst (λ (y : X). p y ≡ true) (sym inside.2) yes)))
