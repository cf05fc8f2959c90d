use Rattle.std.proofs.Common.{arith}
use Rattle.rollout_order.proofs.Lists.{moved_more}
use Rattle.rollout_order.proofs.counts.all_moved.Goals as goal

pub loop-place-preserved : goal.loop-place-preserved
loop-place-preserved c =
    moved_more c.args.before.now c.args.after.now c.loop-place.place c.index-before-place.result c.index-after-place.result c.loop-place.total c.in_ok-slots.slots c.in_ok-total.total
    (omega arith) (omega arith) c.index-before-place.is c.index-after-place.is c.loop-place.invariant c.in_ok-slots.ensures c.in_ok-total.ensures
