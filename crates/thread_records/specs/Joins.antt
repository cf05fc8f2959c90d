-- The histories of a cluster's nodes, node by node.
use Rattle.std.specs.Prelude.{◌≡◌, ℕ, ◌+◌, List, [], ◌∷◌, ◌++◌}
use Rattle.cluster_node.specs.declared.packets.Packet.{Packet}
use Rattle.cluster_node.specs.declared.events.Event.{Event}
use Rattle.cluster_node.specs.declared.outcomes.Outcome.{Outcome}
use Rattle.cluster_node.specs.Rules.{Rules}
use Rattle.cluster_core.specs.Runs.{verdicts}
use Rattle.thread_records.specs.declared.nodes.NodeRecord.{NodeRecord}
use Rattle.thread_records.specs.Histories.{AreOf}

-- one node's history after another
abbrev pub all_events : List NodeRecord → List Event
all_events [] = []
all_events (r ∷ rs) = r.events.items ++ all_events rs

abbrev pub all_outcomes : List NodeRecord → List Outcome
all_outcomes [] = []
all_outcomes (r ∷ rs) = r.outcomes.items ++ all_outcomes rs

-- each history is one of its node, from this node on, and its outcomes are the verdicts of it alone
abbrev pub EachTold : Rules → List Packet → ℕ → List NodeRecord → Type 0
EachTold rules packets k [] = Unit {0}
EachTold rules packets k (r ∷ rs) = AreOf k r.events.items × (r.outcomes.items ≡ verdicts rules [] packets r.events.items) × EachTold rules packets (k + 1) rs
