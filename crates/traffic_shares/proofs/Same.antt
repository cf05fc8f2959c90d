-- Two that the test takes for one are one.
use Rattle.std.proofs.Common.{◌≡◌, ℕ, Bool, true, false, refl, sym, ap, ◌∙◌}
use Rattle.std.specs.Prelude.{◌==◌, ◌&&◌, nat_eq}
use Rattle.std.specs.Cmp.Lexicographic.{pointwise, same_text, nat_list_eq_equiv}
use Rattle.std.proofs.lemmas.Bool.{eq-eqb, eqb-true}
use Rattle.pool_versions.specs.declared.backend.Backend.{Backend}
use Rattle.traffic_shares.specs.declared.holders.Holder.{Holder}
use Rattle.traffic_shares.specs.declared.holders.Holder.TheVariants.{Backend as ABackend, Node}
use Rattle.traffic_shares.specs.declared.holders.ShareKey.{ShareKey}
use Rattle.traffic_shares.specs.Holders.{same_holder, same_share}

both : (p q : Bool) → (p && q) ≡ true → (p ≡ true) × (q ≡ true)
both true true h = (refl, refl)
both true false h = absurd cc
both false q h = absurd cc

same_backend-true : (a b : Backend) → (pointwise nat_eq a.name b.name && (a.addr == b.addr)) ≡ true → a ≡ b
same_backend-true a b h =
    let p = both (pointwise nat_eq a.name b.name) (a.addr == b.addr) h in
    let n : a.name ≡ b.name = same_text a.name b.name (sym p.0) in
    let m : a.addr ≡ b.addr = eqb-true a.addr b.addr p.1 in
    let f : a ≡ record { name = a.name; addr = a.addr } = refl in
    let g : b ≡ record { name = b.name; addr = b.addr } = refl in
    cc

same_holder-true : (a b : Holder) → same_holder a b ≡ true → a ≡ b
same_holder-true (ABackend a) (ABackend b) h = ap (λ (x : Backend). let y : Holder = ABackend x in y) (same_backend-true a b h)
same_holder-true (ABackend a) (Node m) h = absurd cc
same_holder-true (Node n) (ABackend b) h = absurd cc
same_holder-true (Node n) (Node m) h = ap (λ (x : ℕ). let y : Holder = Node x in y) (eqb-true n m h)

same_holder-refl : (a : Holder) → same_holder a a ≡ true
same_holder-refl (ABackend a) = ap (λ (b : Bool). b && (a.addr == a.addr)) (nat_list_eq_equiv.refl a.name) ∙ eq-eqb a.addr a.addr refl
same_holder-refl (Node n) = eq-eqb n n refl

pub same_share-true : (a b : ShareKey) → same_share a b ≡ true → a ≡ b
same_share-true a b h =
    let p = both (a.version == b.version) (same_holder a.holder b.holder) h in
    let n : a.version ≡ b.version = eqb-true a.version b.version p.0 in
    let m : a.holder ≡ b.holder = same_holder-true a.holder b.holder p.1 in
    let f : a ≡ record { version = a.version; holder = a.holder } = refl in
    let g : b ≡ record { version = b.version; holder = b.holder } = refl in
    cc

pub same_share-refl : (a : ShareKey) → same_share a a ≡ true
same_share-refl a = ap (λ (b : Bool). b && same_holder a.holder a.holder) (eq-eqb a.version a.version refl) ∙ same_holder-refl a.holder
