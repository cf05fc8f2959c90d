-- What is sent of records that are lent.
use Rattle.std.specs.Prelude.{◌≡◌, ◌≤◌, ◌+◌, ℕ, List, length, slice_range}
use Rattle.std.specs.List.{flat_map}
use Rattle.simulation.specs.Sent.{Traffic, Sending, sent_by, records_text}
use Rattle.simulation.specs.Wires.{traffic}
use Rattle.thread_records.specs.Lean.{send_of}
use Rattle.run_records.specs.declared.sender.Sender.{Sender}
use Rattle.run_records.specs.declared.wrapping.NodeSender.{NodeSender}
use Rattle.run_records.specs.declared.wrapping.Wrapped.{Wrapped}

abbrev pub traffic_by : Sender → Traffic
traffic_by s = traffic s.wire s.records.now

-- what a node's events of some numbers sent
abbrev pub sent_by_numbers : NodeSender → List ℕ → List Sending
sent_by_numbers s ns = flat_map (λ n. sent_by (traffic_by s.sender) (send_of s.node.now.outcomes.items n)) ns

-- the text of what some of these events sent, which follow one another
pub record IsWrapped (s : NodeSender) (ns : List ℕ) (w : Wrapped) : Type 0 where
  pub within : w.start + w.count ≤ length ns
  pub text : w.text.items ≡ records_text (sent_by_numbers s (slice_range ns w.start (w.start + w.count)))
