-- The test whether two holders are one is an equivalence.
use Rattle.std.specs.Prelude.{◌≡◌, ◌==◌, ◌&&◌, Bool, true, false, nat_eq}
use Rattle.std.specs.Cmp.{IsEquivalence, nat_eq_equiv}
use Rattle.std.specs.Cmp.Lexicographic.{pointwise, nat_list_eq_equiv}
use Rattle.std.proofs.Common.{refl, ap, ◌∙◌}
use Rattle.std.proofs.lemmas.Bool.{false≢true}
use Rattle.traffic_shares.specs.declared.holders.Holder.{Holder}
use Rattle.traffic_shares.specs.declared.holders.Holder.TheVariants as holders
use Rattle.traffic_shares.specs.Holders.{same_holder}

both : (p q : Bool) → (p && q) ≡ true → (p ≡ true) × (q ≡ true)
both true true h = (refl, refl)
both true false h = absurd (false≢true h)
both false q h = absurd (false≢true h)

holder_refl : (a : Holder) → same_holder a a ≡ true
holder_refl (holders.Backend a) = ap (λ (v : Bool). v && (a.addr == a.addr)) (nat_list_eq_equiv.refl a.name) ∙ nat_eq_equiv.refl a.addr
holder_refl (holders.Node n) = nat_eq_equiv.refl n

holder_symm : (a b : Holder) → same_holder a b ≡ same_holder b a
holder_symm (holders.Backend a) (holders.Backend b) =
    ap (λ (v : Bool). v && (a.addr == b.addr)) (nat_list_eq_equiv.symm a.name b.name) ∙ ap (λ (v : Bool). pointwise nat_eq b.name a.name
    && v) (nat_eq_equiv.symm a.addr b.addr)
holder_symm (holders.Backend a) (holders.Node m) = refl
holder_symm (holders.Node n) (holders.Backend b) = refl
holder_symm (holders.Node n) (holders.Node m) = nat_eq_equiv.symm n m

holder_congr : (a b c : Holder) → same_holder a b ≡ true → same_holder a c ≡ same_holder b c
holder_congr (holders.Backend a) (holders.Backend b) (holders.Backend c) h =
    let p = both (pointwise nat_eq a.name b.name) (a.addr == b.addr) h in
    ap (λ (v : Bool). v && (a.addr == c.addr)) (nat_list_eq_equiv.congr a.name b.name c.name p.0) ∙ ap (λ (v : Bool). pointwise nat_eq b.name c.name
    && v) (nat_eq_equiv.congr a.addr b.addr c.addr p.1)
holder_congr (holders.Backend a) (holders.Backend b) (holders.Node k) h = refl
holder_congr (holders.Backend a) (holders.Node m) c h = absurd (false≢true h)
holder_congr (holders.Node n) (holders.Backend b) c h = absurd (false≢true h)
holder_congr (holders.Node n) (holders.Node m) (holders.Backend c) h = refl
holder_congr (holders.Node n) (holders.Node m) (holders.Node k) h = nat_eq_equiv.congr n m k h

pub holder_equiv : IsEquivalence same_holder
holder_equiv = record { refl = holder_refl; symm = holder_symm; congr = holder_congr }
