-- The test of a backend among others is that it is one of them.
use Rattle.std.proofs.Common.{Bor, Some, subst, ◌≡◌, ℕ, suc, true, ◌==◌, ◌↔◌, List, [], ◌∷◌, Contains, refl, sym, ◌∙◌, ap, arith, inl, inr, nat_eq}
use Rattle.std.specs.Cmp.Lexicographic.{pointwise}
use Rattle.std.specs.List.{list_any}
use Rattle.std.specs.Slice.{IsItemAt}
use Rattle.std.proofs.lemmas.Bool.{and_parts, and_from, or_cases, eqb-true, eq-eqb}
use Rattle.std.proofs.lemmas.Bool.Decides.{Decides-eqb}
use Rattle.std.proofs.lemmas.Slice.Eq.{slice_eq-Decides}
use Rattle.std.proofs.lemmas.List.Folds.{list_any_at}
use Rattle.std.proofs.lemmas.List.Elements.{Contains-get_or}
use Rattle.pool_versions.specs.declared.backend.Backend.{Backend}
use Rattle.selection.specs.Readied.{same_backend}

backend_of : List ℕ → ℕ → Backend
backend_of name addr = record { name = name; addr = addr }

same_name : (a b : List ℕ) → pointwise nat_eq a b ≡ true → a ≡ b
same_name a b h = (slice_eq-Decides Decides-eqb a b (pointwise nat_eq a b) refl).0 h

pub same_is : (a b : Backend) → same_backend a b ≡ true → a ≡ b
unfolding backend_of
same_is a b h =
    let parts = and_parts (pointwise nat_eq a.name b.name) (a.addr == b.addr) h in
    ap (λ (n : List ℕ). backend_of n a.addr) (same_name a.name b.name parts.0) ∙ ap (backend_of b.name) (eqb-true a.addr b.addr parts.1)

pub is_same : (a : Backend) → same_backend a a ≡ true
is_same a = and_from (pointwise nat_eq a.name a.name) (a.addr == a.addr)
    ((slice_eq-Decides Decides-eqb a.name a.name (pointwise nat_eq a.name a.name) refl).1 refl) (eq-eqb a.addr a.addr refl)

pub same_iff : (a b : Backend) → (same_backend a b ≡ true) ↔ (a ≡ b)
same_iff a b = (same_is a b, λ e. rw e (is_same b))

contained_from_any : (b : Backend) (bs : List Backend) → list_any (same_backend b) bs ≡ true → Contains bs b
contained_from_any b [] h = absurd cc
contained_from_any b (c ∷ cs) h = elim (or_cases (same_backend b c) (list_any (same_backend b) cs) h) [
  | inl here ↦ (0, omega arith, sym (same_is b c here))
  | inr later ↦ let found = contained_from_any b cs later in (suc found.0, omega (arith, found.1), found.2)
]

pub any_is_contained : (b : Backend) (bs : List Backend) → (list_any (same_backend b) bs ≡ true) ↔ Contains bs b
any_is_contained b bs = (
  contained_from_any b bs,
  λ inside. list_any_at (same_backend b) bs inside.0 b inside.1 (rw inside.2 (is_same b)),
)

-- what stands at a place of a list is in it
pub is_item : {X : Type 0} (xs : List X) (i : ℕ) (x : Bor X) (b : X) → IsItemAt xs i (Some x) → b ≡ x.now → Contains xs b
is_item {X} xs i x b h e = subst (λ (y : X). Contains xs y) (sym (e ∙ h.1)) (Contains-get_or xs i x.now h.3.0)
