-- What the nodes of a cluster sent, in the order in which it is written.
use Rattle.std.specs.Prelude.{List}
use Rattle.std.specs.List.{flat_map}
use Rattle.std.specs.Global.{Vec}
use Rattle.cluster_node.specs.declared.outcomes.Outcome.{Outcome}
use Rattle.thread_records.specs.declared.nodes.NodeRecord.{NodeRecord}
use Rattle.simulation.specs.Sent.{Traffic, Sending, sent_by}

-- what outcomes send, in order
abbrev pub sent_of : Traffic → List Outcome → List Sending
sent_of t outcomes = flat_map (λ o. sent_by t o) outcomes

-- what was sent in some lives, life by life
abbrev pub sent_by_lives : Traffic → List (Vec Outcome) → List Sending
sent_by_lives t lives = flat_map (λ life. sent_of t life.items) lives

-- what some nodes sent, node by node
abbrev pub sent_by_nodes : Traffic → List NodeRecord → List Sending
sent_by_nodes t nodes = flat_map (λ node. sent_by_lives t node.sent.items) nodes
