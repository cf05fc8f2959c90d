use Rattle.std.proofs.Common.{arith}
use Rattle.std.specs.Arc.{arc_value}
use Rattle.shared_versions.proofs.Wanted.{first_none}
use Rattle.shared_versions.proofs.shared.first_of.Goals as goal

pub returns : goal.returns
returns g c = first_none arc_value c.args.number c.args.versions.now c.loop-version.version-index (omega arith) c.loop-version.invariant
