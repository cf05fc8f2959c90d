-- How a run ended of which a part was played.
use Rattle.std.specs.Prelude.{ℕ, List, [], ◌∷◌}
use Rattle.pcap_file.specs.declared.format.InputEnd.{InputEnd}
use Rattle.event_trace.specs.Trace.{Trace}
use Rattle.event_trace.specs.Steps.{start}

-- the trace of the part's events, how many records the capture has, and how it ends
pub record RunEnd : Type 0 where
  pub trace : Trace
  pub packets : ℕ
  pub ending : InputEnd

-- the trace of the first of these
abbrev pub trace_in : {A : Type 0} → (A → Trace) → List A → Trace
trace_in trace_of [] = start 0
trace_in trace_of (p ∷ ps) = trace_of p
