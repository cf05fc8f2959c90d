-- What the run of a scenario's cluster on threads keeps.
use Rattle.std.specs.Prelude.{◌≡◌, List, []}
use Rattle.std.specs.List.{All}
use Rattle.ip_headers.specs.declared.Link.{Link}
use Rattle.pcap_file.specs.Format.{Record}
use Rattle.hash_laws.specs.Any.{plain_of}
use Rattle.cluster_core.specs.Headline.{Agreement, Keeping, KeepingUps}
use Rattle.cluster_core.specs.Histories.{IsSteady}
use Rattle.cluster_core.specs.Tables.{TablesDiffer, TablesAreEven, NoSlotDrains}
use Rattle.run_report.specs.Agreeing.{FollowsPicks, FollowsTables}
use Rattle.run_report.specs.Splits.{splits_of}
use Rattle.thread_records.specs.declared.nodes.History.{History}
use Rattle.scenario.specs.declared.plan.Scenario.{Scenario}
use Rattle.scenario_keys.specs.declared.words.SchemeKind.TheVariants.{Maglev}
use Rattle.simulate_scenario.specs.Described.{rules_in}
use Rattle.run_scenario.specs.Runs.{packets_in, record_of}

-- Its history keeps the promises, and for Maglev in terms of the tables' slots. So do its splits. Where the turn doesn't
-- matter to the scheme the two versions of each pick its two backends, for Maglev at the flow's slot.
pub record KeepsPromises (s : Scenario) (link : Link) (records : List Record) (history : History) : Type 0 where
  pub agreement : IsSteady (rules_in s) → Agreement (rules_in s) history.outcomes.items
  pub keeping : Keeping (rules_in s) [] (packets_in s link records) history.events.items history.outcomes.items
  pub keeping_ups : KeepingUps (rules_in s) [] (packets_in s link records) history.events.items history.outcomes.items
  pub tables : s.scheme ≡ Maglev → TablesDiffer (plain_of s.hash) s.size s.catalogue history.outcomes.items
  pub splits : IsSteady (rules_in s) → All (FollowsPicks (rules_in s)) (splits_of (record_of history))
  pub split_slots : s.scheme ≡ Maglev → All (FollowsTables (plain_of s.hash) s.size s.catalogue) (splits_of (record_of history))
  pub slots : s.scheme ≡ Maglev → TablesAreEven (plain_of s.hash) s.size s.catalogue
  pub none_drains : s.scheme ≡ Maglev → NoSlotDrains (plain_of s.hash) s.size s.catalogue
