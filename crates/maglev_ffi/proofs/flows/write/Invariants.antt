use Rattle.std.proofs.Common.{◌≤◌, ◌∷◌, ◌%◌, ◌≡◌, length}
use Rattle.five_tuple.specs.Flow.{flow_bytes}
use Rattle.maglev_ffi.specs.ManySlots.{flow_of}
use Rattle.maglev_ffi.proofs.Written.{AreWritten}
use Rattle.maglev_ffi.proofs.flows.write.Given as goal

abbrev pub invariant-loop-place : goal.invariant-loop-place
invariant-loop-place g l = record {
  within : l.place ≤ length l.slots;
  same : length l.slots ≡ length l.flows;
  written : AreWritten (λ x. g.H.FlowHash.plain l.hash (102 ∷ flow_bytes (flow_of x)) % l.size) l.flows l.slots l.place;
}
