-- Orders compare by what they move.
use Rattle.std.proofs.Common.{◌≡◌, ap}
use Rattle.std.specs.Cmp.{IsStrictWeakOrder}
use Rattle.std.specs.Fn.{Called, ComparesAs}
use Rattle.std.specs.declared.cmp.Ordering.{Ordering}
use denote.Param.Members.{Mut}
use denote.Ref.{Bor}
use Rattle.std.specs.Ordering.{nat_cmp, is_lt}
use Rattle.std.proofs.lemmas.Cmp.{nat_cmp_total}
use Rattle.std.proofs.lemmas.Fn.{always_returns_same}
use Rattle.std.proofs.lemmas.List.Sorted.{ranks_by}
use Rattle.rollout_order.specs.declared.orders.Order.{Order}
use Rattle.rollout_order.specs.Orders.{fewer}

pub fewer_is_order : IsStrictWeakOrder fewer
fewer_is_order = ranks_by nat_cmp_total (λ (o : Order). o.moved)

-- a closure that compares so answers by that order
pub compares_by_moved : {F : Type 0} {g : Mut F (Bor Order × (Bor Order × Unit {0})) Ordering} {f : F} → ((a : Bor Order × (Bor Order × Unit {0})) (r : Ordering) (f' : F) → Called g f a r f' → (r ≡ nat_cmp a.0.now.moved a.1.0.now.moved) × (f' ≡ f)) →
    ComparesAs g fewer f
compares_by_moved {g = g} {f = f} h = always_returns_same g (λ a r. is_lt r ≡ fewer a.0.now a.1.0.now) f (λ a r f' k. (ap is_lt (h a r f' k).0, (h a r f' k).1))
