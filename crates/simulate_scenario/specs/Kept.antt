-- What the run of a scenario keeps.
use Rattle.std.specs.Prelude.{◌≡◌, reverse}
use Rattle.std.specs.List.{All}
use Rattle.hash_laws.specs.Any.{plain_of}
use Rattle.cluster_core.specs.Histories.{IsSteady}
use Rattle.cluster_core.specs.Promises.{Promises, MaglevPromises}
use Rattle.event_trace.specs.Trace.{Trace}
use Rattle.run_report.specs.Splits.{splits_of}
use Rattle.run_report.specs.Agreeing.{FollowsPicks, FollowsTables}
use Rattle.scenario.specs.declared.plan.Scenario.{Scenario}
use Rattle.scenario_keys.specs.declared.words.SchemeKind.TheVariants.{Maglev}
use Rattle.simulate_scenario.specs.Described.{rules_in}

-- Its history keeps the promises, and for Maglev in terms of the tables' slots. So do its splits. Where the turn doesn't
-- matter to the scheme the two versions of each pick its two backends, for Maglev at the flow's slot.
pub record KeepsPromises (s : Scenario) (trace : Trace) : Type 0 where
  pub promises : Promises (rules_in s) (reverse trace.past)
  pub tables : s.scheme ≡ Maglev → MaglevPromises (plain_of s.hash) s.size s.catalogue (rules_in s) (reverse trace.past)
  pub splits : IsSteady (rules_in s) → All (FollowsPicks (rules_in s)) (splits_of trace.past)
  pub slots : s.scheme ≡ Maglev → All (FollowsTables (plain_of s.hash) s.size s.catalogue) (splits_of trace.past)
