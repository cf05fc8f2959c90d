use Rattle.std.proofs.Common.{◌≡◌, true, drop}
use Rattle.scenario_diagnostics.specs.Warnings.{comes}
use Rattle.scenario_diagnostics.proofs.step_facts.comes.Given as goal

-- what is left decides
abbrev pub invariant-loop-step : goal.invariant-loop-step
invariant-loop-step l = comes l.node l.is_live (drop l.step-index l.steps) ≡ comes l.node true l.steps
