use Rattle.std.proofs.Common.{◌+◌, ◌∙◌, refl, arith}
use Rattle.place_buckets.proofs.Grouping.{but_last}
use Rattle.place_buckets.proofs.groups.refill.Goals as goal

pub loop-i-preserved : goal.loop-i-preserved
loop-i-preserved c = (c.put.ensures.grouped (c.loop-i.i + 1) (omega arith) (but_last _ _ _ _ refl c.loop-i.invariant.0), c.put.ensures.hashes ∙ c.loop-i.invariant.1)
