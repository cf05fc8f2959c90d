-- What a part's run has of the whole run.
use Rattle.std.specs.Prelude.{◌≡◌, ℕ, List, reverse, Option}
use Rattle.cluster_node.specs.declared.packets.Packet.{Packet}
use Rattle.cluster_node.specs.Rules.{Rules}
use Rattle.spreader.specs.Choices.{Choice}
use Rattle.cluster_core.specs.Cluster.{Cluster}
use Rattle.cluster_core.specs.Runs.{verdict}
use Rattle.event_trace.specs.declared.steps.ScenarioStep.{ScenarioStep}
use Rattle.event_trace.specs.Trace.{Trace}
use Rattle.event_trace.specs.Steps.{world_of, run, start}
use Rattle.simulation.specs.Sent.{Traffic, sent}
use Rattle.node_part.specs.Parts.{IsOwn, of_part, part_of, part_trace}

-- the trace of steps over records
abbrev pub traced : Cluster → Choice → List Packet → List ScenarioStep → ℕ → Trace
traced cluster choice packets ss nodes = run (world_of cluster choice packets) ss (start nodes)

-- the outcomes of a node's events depend on the events of that node alone
abbrev pub NodesAreJudgedAlone : Type 0
NodesAreJudgedAlone = (rules : Rules) → IsOwn (verdict rules)

-- A part's run has the very events of the part that the whole run has, in order and with their outcomes. All else is the
-- same too: the records that are read, lost and skipped, the packets that found no live node, and what the steps fixed.
abbrev pub PartsAreOfTheWhole : Type 0
PartsAreOfTheWhole = (only : Option ℕ) (cluster : Cluster) (choice : Choice) (packets : List Packet) (ss : List ScenarioStep) (nodes : ℕ) →
    IsOwn cluster.judge →
    part_trace only (traced (part_of only cluster) choice packets ss nodes) ≡ part_trace only (traced cluster choice packets ss nodes)

-- all that a part's run sends is what the whole run sends at the part's events
abbrev pub PartsSendTheirOwn : Type 0
PartsSendTheirOwn = (only : Option ℕ) (cluster : Cluster) (choice : Choice) (packets : List Packet) (ss : List ScenarioStep) (nodes : ℕ) →
    IsOwn cluster.judge → (t : Traffic) →
    sent t (reverse (traced (part_of only cluster) choice packets ss nodes).past)
    ≡ sent t (reverse (of_part only (traced cluster choice packets ss nodes).past))
