use Rattle.recent_order.proofs.Sides.{new_leaves}
use Rattle.recent_order.proofs.order.RecentOrder.new.Goals as goal

pub invariant_of-result : goal.invariant_of-result
invariant_of-result c = (new_leaves c.new.result.items c.new.ensures.items).ring

pub returns : goal.returns
returns c = (new_leaves c.new.result.items c.new.ensures.items).view
