use Rattle.std.proofs.Common.{w8, arith}
use Rattle.place_buckets.proofs.Comparing.{compared}
use Rattle.place_buckets.proofs.lanes.first_of_eight.Goals as goal

pub returns : goal.returns
returns c = compared w8 c.args.tags.now c.args.from 8 _ c.args.tag c.requires (omega arith) c.first_set.ensures
