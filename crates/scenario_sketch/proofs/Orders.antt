-- Destinations by how many packets went to them.
use Rattle.std.proofs.Common.{◌≡◌, ℕ, Ordering, ap, ◌∙◌, arith}
use denote.Param.Members.{Mut}
use denote.Ref.{Bor}
use Rattle.std.specs.Prelude.{nat_lt}
use Rattle.std.specs.Cmp.{IsStrictWeakOrder}
use Rattle.std.specs.Fn.{Called, ComparesAs}
use Rattle.std.specs.Ordering.{nat_cmp, is_lt}
use Rattle.std.proofs.lemmas.Bool.Decides.{nat_tests}
use Rattle.std.proofs.lemmas.Fn.{always_returns_same}
use Rattle.std.proofs.lemmas.List.MinMax.{IsStrictWeakOrder-by_number, IsStrictWeakOrder-flip}
use Rattle.scenario_sketch.specs.declared.counted.Counted.{Counted}
use Rattle.scenario_sketch.specs.Counts.{is_busier}

pub busier_is_order : IsStrictWeakOrder is_busier
busier_is_order = IsStrictWeakOrder-flip (λ x y. nat_lt x.packets y.packets) (IsStrictWeakOrder-by_number (λ (c : Counted). c.packets))

below_is : (a b : ℕ) → is_lt (nat_cmp a b) ≡ nat_lt a b
below_is a b = grind (arith, nat_tests)

-- a closure that compares the second count with the first answers by that order
pub compares_counts : {F : Type 0} {g : Mut F (Bor Counted × (Bor Counted × Unit {0})) Ordering} {f : F} → ((a : Bor Counted × (Bor Counted × Unit {0})) (r : Ordering) (f' : F) → Called g f a r f' → (r ≡ nat_cmp a.1.0.now.packets a.0.now.packets) × (f' ≡ f)) →
    ComparesAs g is_busier f
compares_counts {g = g} {f = f} h = always_returns_same g (λ a r. is_lt r ≡ is_busier a.0.now a.1.0.now) f (λ a r f' k. (ap is_lt (h a r f' k).0 ∙ below_is a.1.0.now.packets a.0.now.packets, (h a r f' k).1))
