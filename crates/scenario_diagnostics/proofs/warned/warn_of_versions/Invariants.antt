use Rattle.std.proofs.Common.{◌≡◌, ◌++◌, drop}
use Rattle.std.specs.List.{flat_map}
use Rattle.scenario_diagnostics.specs.Warnings.{empty_in}
use Rattle.scenario_diagnostics.proofs.warned.warn_of_versions.Given as goal

-- what is warned of is that of the versions so far
abbrev pub invariant-loop-version : goal.invariant-loop-version
invariant-loop-version l = l.warnings.items ++ flat_map empty_in (drop l.version-index l.versions) ≡ l.initial.warnings.items ++ flat_map empty_in l.versions
