-- The cluster that a scenario describes.
use Rattle.std.specs.Prelude.{length, is_some}
use Rattle.hash_laws.specs.Any.{plain_of}
use Rattle.pool_versions.specs.Pool.{version_at}
use Rattle.selection.specs.Candidates.{candidates_of}
use Rattle.spreader.specs.Choices.{Choice}
use Rattle.named_scheme.specs.Picking.{pick_by}
use Rattle.named_spread.specs.Choosing.{choice_by}
use Rattle.cluster_node.specs.Rules.{Rules}
use Rattle.cluster_core.specs.Cluster.{Cluster}
use Rattle.cluster_core.specs.Runs.{cluster_by}
use Rattle.run_report.specs.Causes.{Lookups, lookups_of}
use Rattle.scenario.specs.declared.plan.Scenario.{Scenario}
use Rattle.pcap_file.specs.Device.{Tape}
use Rattle.simulation.specs.declared.fault.SimulationFault.{SimulationFault}
use Rattle.simulation.specs.Plans.{Planned}
use Rattle.simulation.specs.Simulated.{Stopped}

abbrev pub rules_in : Scenario → Rules
rules_in s = record {
  pick = pick_by s.scheme (plain_of s.hash) s.size;
  plain = plain_of s.hash;
  known = λ v. is_some (version_at v s.catalogue.versions);
  ups = λ v x. candidates_of s.catalogue v x;
  nodes = length s.nodes.items;
  workers = s.workers;
  capacity = s.capacity;
  idle = s.idle;
}

abbrev pub cluster_in : Scenario → Cluster
cluster_in s = cluster_by (rules_in s)

-- which node a packet goes to
abbrev pub choice_in : Scenario → Choice
choice_in s = choice_by s.spread (plain_of s.hash)

-- what the run takes of it
abbrev pub plan_in : Scenario → Planned
plan_in s = record { nodes = s.nodes.items; check = s.check; steps = s.steps.items }

-- what its splits and explanations are described by
abbrev pub lookups_in : Scenario → Lookups
lookups_in s = lookups_of (plain_of s.hash) s.size s.catalogue

-- its run stopped by this fault
abbrev pub StoppedIn : Scenario → Tape → Tape → Tape → Tape → SimulationFault → Type 0
StoppedIn s input input' output output' fault = Stopped (cluster_in s) (choice_in s) (plan_in s) input input' output output' fault
