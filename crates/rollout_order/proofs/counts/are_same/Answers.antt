use Rattle.std.specs.Cmp.{booleans_Decides}
use Rattle.std.proofs.lemmas.Slice.Eq.{slice_eq-Decides}
use Rattle.rollout_order.proofs.counts.are_same.Goals as goal

pub returns : goal.returns
returns c = λ e. (slice_eq-Decides booleans_Decides c.args.one.now c.args.other.now c.eq.result c.eq.ensures).0 e
