-- The parts of a run over a capture, put together.
use Rattle.std.proofs.Common.{◌≡◌, ℕ, List, [], subst, Option, Some, None, Ok, inl, inr, sym, ◌++◌, drop, append_assoc, refl, arith, ◌∙◌}
use Rattle.std.specs.Prelude.{option_map}
use Rattle.std.specs.Io.KnownBytes.{Appends}
use Rattle.std.proofs.KnownBytes.{Appends-trans}
use Rattle.pcap_file.specs.declared.format.Head.{Head}
use Rattle.pcap_file.specs.declared.format.InputEnd.{InputEnd}
use Rattle.pcap_file.specs.Device.{Tape, Unfailed, WithinCalls, PutRefused}
use Rattle.pcap_file.specs.Format.{Record, written_head}
use Rattle.pcap_file.specs.Capture.{HeadRead}
use Rattle.pcap_file.specs.Text.{Reads, IsTold, ending_of}
use Rattle.spreader.specs.Choices.{Choice}
use Rattle.cluster_core.specs.Cluster.{Cluster}
use Rattle.event_trace.specs.Trace.{Trace}
use Rattle.simulation.specs.declared.fault.SimulationFault.{SimulationFault}
use Rattle.simulation.specs.declared.fault.SimulationFault.TheVariants.{Write, Memory}
use Rattle.simulation.specs.Plans.{Planned}
use Rattle.simulation.specs.Intake.{StopsAt}
use Rattle.simulation.specs.Sent.{records_text}
use Rattle.simulation.specs.PrivateGoing.{Shortened}
use Rattle.simulation.specs.PrivateStages.{IsOver}
use Rattle.simulation.specs.Simulated.{InputIs, sendings, Begun, Simulated, Stopped}
use Rattle.simulation.proofs.Sends.{unfailed_same, unfailed_both, first_all}
use Rattle.simulation.proofs.Reaching.{passed_none}

pub input_is : (left mid : Option (List ℕ)) (head : Head) (rs : List Record) (e : InputEnd) → HeadRead left mid (Ok head) → IsTold head mid rs e → InputIs left head rs e
input_is None mid head rs e h t = tt
input_is (Some text) None head rs e h t = absurd (no_rest h.1)
  where
    no_rest : {x : List ℕ} → None ≡ Some x → ⊥
    no_rest {x} e = cc e
input_is (Some text) (Some rest) head rs e h t = (h.0, subst (λ (l : List ℕ). Reads head 0 l rs (ending_of e)) (let same : _ = h.1 in cc) t)

-- the run stopped behind the input's header
pub stopped : (cluster : Cluster) (choice : Choice) (plan : Planned) (head : Head) (input text input' output begun output' : Tape) (fault : SimulationFault) → HeadRead input.bytes text.bytes (Ok head) → Unfailed input text → WithinCalls 24 input text → Begun output begun
    → Shortened cluster choice plan head text input' begun output' fault → Stopped cluster choice plan input input' output output' fault
stopped cluster choice plan head input text input' output begun output' fault h u w b s = inr (inr (record {
  head = head;
  text = text;
  header = h;
  unfailed = u;
  within = w;
  records = s.records;
  stops = s.stops;
  wrote = inr (begun, b, s.wrote);
}))

-- the output's header was refused
pub unbegun : (cluster : Cluster) (choice : Choice) (plan : Planned) (head : Head) (input text output output' : Tape) (fault : SimulationFault) → HeadRead input.bytes text.bytes (Ok head) → Unfailed input text → WithinCalls 24 input text → (fault ≡ Write) × PutRefused written_head output output'
    → Stopped cluster choice plan input text output output' fault
unbegun cluster choice plan head input text output output' fault h u w p = inr (inr (record {
  head = head;
  text = text;
  header = h;
  unfailed = u;
  within = w;
  records = [];
  stops = subst (λ (f : SimulationFault). StopsAt head text text [] f) (sym p.0) (None, passed_none head text.bytes, unfailed_same text);
  wrote = inl p;
}))

pub simulated : (cluster : Cluster) (choice : Choice) (plan : Planned) (head : Head) (input text input' output begun output' : Tape) (c : Trace) (n : ℕ) (e : InputEnd) → HeadRead input.bytes text.bytes (Ok head) → Unfailed input text → Begun output begun
    → IsOver cluster choice plan head text input' begun output' c n e → Simulated cluster choice plan input input' output output' c n e
simulated cluster choice plan head input text input' output begun output' c n e h u b o = record {
  head = head;
  records = o.records;
  input_is = input_is input.bytes text.bytes head o.records e h o.told;
  input_unfailed = unfailed_both input text input' u o.unfailed;
  trace_is = o.trace_is;
  count = o.count;
  output_is = Appends-trans output.bytes begun.bytes output'.bytes written_head (records_text (sendings cluster choice plan head.link o.records)) b.0 o.wrote.bytes;
  output_unfailed = unfailed_both output begun output' b.1 o.wrote.unfailed;
}

-- the input behind its header, and the output with one, where nothing is said of the calls
behind_header : Tape → Tape
behind_header t = record t { bytes = option_map (λ (l : List ℕ). drop 24 l) t.bytes }

with_header : Tape → Tape
with_header t = record t { bytes = option_map (λ (l : List ℕ). l ++ written_head) t.bytes }

told_behind : (input : Option (List ℕ)) (head : Head) (rs : List Record) (e : InputEnd) → InputIs input head rs e
    → HeadRead input (option_map (λ (l : List ℕ). drop 24 l) input) (Ok head) × IsTold head (option_map (λ (l : List ℕ). drop 24 l) input) rs e
told_behind None head rs e h = (tt, tt)
told_behind (Some text) head rs e h = ((h.0, refl), h.1)

appends_header : (o : Option (List ℕ)) → Appends o (option_map (λ (l : List ℕ). l ++ written_head) o) written_head
appends_header None = tt
appends_header (Some l) = refl

appends_rest : (o o' : Option (List ℕ)) (xs : List ℕ) → Appends o o' (written_head ++ xs) → Appends (option_map (λ (l : List ℕ). l ++ written_head) o) o' xs
appends_rest None o' xs h = tt
appends_rest (Some l) None xs h = h
appends_rest (Some l) (Some m) xs h = h ∙ sym (append_assoc l written_head xs)

-- a run came to its end, and what was asked of it found no memory
pub whole_unanswered : (cluster : Cluster) (choice : Choice) (plan : Planned) (input input' output output' : Tape) (c : Trace) (n : ℕ) (e : InputEnd) → Simulated cluster choice plan input input' output output' c n e → Stopped cluster choice plan input input' output output' Memory
unfolding behind_header with_header
whole_unanswered cluster choice plan input input' output output' c n e s =
    let told = told_behind input.bytes s.head s.records e s.input_is in
    inr (inr (record {
      head = s.head;
      text = behind_header input;
      header = told.0;
      unfailed = unfailed_same input;
      within = (0, omega arith, omega arith);
      records = s.records;
      stops = (Some e, told.1, s.input_unfailed);
      wrote = inr (
        with_header output,
        (appends_header output.bytes, unfailed_same output),
        first_all (with_header output) output' (sendings cluster choice plan s.head.link s.records)
            (record { bytes = appends_rest output.bytes output'.bytes (records_text (sendings cluster choice plan s.head.link s.records)) s.output_is; unfailed = s.output_unfailed }),
      );
    }))
