use Rattle.std.proofs.Common.{◌≡◌, drop}
use Rattle.scenario_diagnostics.specs.Warnings.{unknown_after}
use Rattle.scenario_diagnostics.proofs.warned.warn_of_steps.Given as goal

-- what the steps that are left add to the warnings so far is what all add to those at first
abbrev pub invariant-loop-step : goal.invariant-loop-step
invariant-loop-step l = unknown_after l.catalogue (drop l.step-index l.steps) l.warnings.items ≡ unknown_after l.catalogue l.steps l.initial.warnings.items
