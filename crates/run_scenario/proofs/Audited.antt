-- Each node's outcomes are what its own events come to.
use Rattle.std.proofs.Common.{◌≡◌, ◌+◌, ◌∷◌, [], ℕ, List}
use Rattle.std.specs.Prelude.{All}
use Rattle.std.proofs.lemmas.List.Elements.{All-nil, All-cons}
use Rattle.cluster_node.specs.Rules.{Rules}
use Rattle.cluster_node.specs.declared.packets.Packet.{Packet}
use Rattle.cluster_core.specs.Runs.{verdicts}
use Rattle.thread_records.specs.declared.command.Command.{Command}
use Rattle.thread_records.specs.declared.nodes.NodeRecord.{NodeRecord}
use Rattle.thread_records.specs.Runs.{AreRuns}

pub all_told : (rules : Rules) (packets : List Packet) (ring k : ℕ) (cs : List (List Command)) (rs : List NodeRecord) → AreRuns rules packets ring k cs rs → All (λ r. r.outcomes.items ≡ verdicts rules [] packets r.events.items) rs
all_told rules packets ring k [] [] h = All-nil (λ (r : NodeRecord). r.outcomes.items ≡ verdicts rules [] packets r.events.items)
all_told rules packets ring k [] (r ∷ rs) h = absurd h
all_told rules packets ring k (c ∷ cs) [] h = absurd h
all_told rules packets ring k (c ∷ cs) (r ∷ rs) h = All-cons (λ (r : NodeRecord). r.outcomes.items ≡ verdicts rules [] packets r.events.items) r rs h.0.told (all_told rules packets ring (k + 1) cs rs h.1)
