-- What a run takes of a scenario.
use Rattle.std.specs.Prelude.{ℕ, Bool, List}
use Rattle.timed_steps.specs.declared.TimedStep.{TimedStep}
use Rattle.simulation.specs.declared.plan.Plan.{Plan}

-- the nodes' addresses, whether the headers' checksums are tested, and the steps
pub record Planned : Type 0 where
  pub nodes : List ℕ
  pub check : Bool
  pub steps : List TimedStep

abbrev pub planned : Plan → Planned
planned p = record { nodes = p.nodes.now; check = p.check; steps = p.steps.now }
