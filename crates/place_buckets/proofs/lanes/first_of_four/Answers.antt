use Rattle.std.proofs.Common.{w32, arith}
use Rattle.place_buckets.proofs.Comparing.{compared}
use Rattle.place_buckets.proofs.lanes.first_of_four.Goals as goal

pub returns : goal.returns
returns c = compared w32 c.args.places.now c.args.from 4 _ c.args.place c.requires (omega arith) c.first_set.ensures
