use Rattle.std.proofs.Common.{◌≡◌, ◌<◌, ◌+◌, ℕ, length, slice_index_or}
use Rattle.cluster_node.specs.declared.packets.Packet.{Packet}
use Rattle.simulation.specs.Sent.{packets_of}
use Rattle.run_records.proofs.reading.read_into.Given as goal

abbrev pub invariant-loop-at : goal.invariant-loop-at
invariant-loop-at l = record {
  many : length l.packets ≡ length l.fn.packets;
  each : (k : ℕ) (p : Packet) → k < l.at → slice_index_or l.packets k p ≡ slice_index_or (packets_of l.wire.link l.wire.check l.records) (l.from + k) p;
}
