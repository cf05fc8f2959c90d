use Rattle.std.proofs.Common.{◌≡◌, ◌++◌}
use Rattle.scenario_diagnostics.specs.Warnings.{bare_below}
use Rattle.scenario_diagnostics.proofs.warned.warn_of_nodes.Given as goal

abbrev pub invariant-loop-node : goal.invariant-loop-node
invariant-loop-node l = l.warnings.items ≡ l.initial.warnings.items ++ bare_below l.catalogue l.steps l.node
