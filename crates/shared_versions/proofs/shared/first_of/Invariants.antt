use Rattle.std.specs.Arc.{arc_value}
use Rattle.shared_versions.proofs.Wanted.{IsBehind}
use Rattle.shared_versions.proofs.shared.first_of.Given as goal

abbrev pub invariant-loop-version : goal.invariant-loop-version
invariant-loop-version g l = IsBehind arc_value l.number l.versions l.version-index
