use Rattle.std.proofs.Common.{◌≡◌}
use Rattle.shared_versions.proofs.auditor.Auditor.new.Given as goal

abbrev pub invariant-loop-version : goal.invariant-loop-version
invariant-loop-version g l = l.auditor ≡ record { setup = l.setup; catalogue = l.catalogue }
