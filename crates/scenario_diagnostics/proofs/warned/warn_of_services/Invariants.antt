use Rattle.std.proofs.Common.{◌≡◌, ◌++◌, drop}
use Rattle.std.specs.List.{flat_map}
use Rattle.scenario_diagnostics.specs.Warnings.{empty_at, empty_in}
use Rattle.scenario_diagnostics.proofs.warned.warn_of_services.Given as goal

-- what is warned of is that of the services so far
abbrev pub invariant-loop-service : goal.invariant-loop-service
invariant-loop-service l = l.warnings.items ++ flat_map (empty_at l.version.number) (drop l.service-index l.version.services.items) ≡ l.initial.warnings.items ++ empty_in l.version
