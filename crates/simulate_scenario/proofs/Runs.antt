-- What a run that came to its end is.
use Rattle.std.proofs.Common.{◌≡◌, ℕ, Bool, List, length, map, sym, subst, Result}
use Rattle.std.specs.Prelude.{IfOk}
use Rattle.std.specs.declared.alloc.AllocError.{AllocError}
use Rattle.pcap_file.specs.declared.format.InputEnd.{InputEnd}
use Rattle.pcap_file.specs.Device.{Tape}
use Rattle.pcap_file.specs.Format.{Record}
use Rattle.spreader.specs.Choices.{Choice}
use Rattle.cluster_node.specs.Records.{Judged}
use Rattle.cluster_core.specs.declared.counts.Totals.{Totals}
use Rattle.cluster_core.specs.Cluster.{Cluster}
use Rattle.event_trace.specs.Trace.{Trace}
use Rattle.event_trace.specs.Steps.{world_of, start}
use Rattle.event_trace.specs.declared.play.Tally.{Tally}
use Rattle.event_trace.proofs.Judging.{run_told}
use Rattle.json_lines.specs.declared.forms.Form.{Form}
use Rattle.json_lines.specs.Forms.{report_as}
use Rattle.simulation.specs.Plans.{Planned}
use Rattle.timed_steps.specs.Timed.{counted}
use Rattle.simulation.specs.Sent.{time_of, packets_of}
use Rattle.simulation.specs.Simulated.{trace_of, Simulated}

pub trace_told : (cluster : Cluster) (choice : Choice) (plan : Planned) (link : _) (records : List Record) → Judged cluster.judge (trace_of cluster choice plan link records).past
unfolding trace_of
trace_told cluster choice plan link records = run_told (world_of cluster choice (packets_of link plan.check records)) (counted (map time_of records) plan.steps) (start (length plan.nodes)) tt

pub judged : (cluster : Cluster) (choice : Choice) (plan : Planned) (i i' o o' : Tape) (c : Trace) (n : ℕ) (e : InputEnd) → Simulated cluster choice plan i i' o o' c n e → Judged cluster.judge c.past
judged cluster choice plan i i' o o' c n e s = subst (λ (d : Trace). Judged cluster.judge d.past) (sym s.trace_is) (trace_told cluster choice plan s.head.link s.records)

pub told : {X : Type 0} (form : Form) (bytes : X → List ℕ) (r : Result X AllocError) (t t' : Tally) (a a' : Totals) (b b' : Bool) → t ≡ t' → a ≡ a' → b ≡ b' → IfOk r (λ s. bytes s ≡ report_as form t a b) → IfOk r (λ s. bytes s ≡ report_as form t' a' b')
told form bytes r t t' a a' b b' e f g h =
    subst (λ (x : Bool). IfOk r (λ s. bytes s ≡ report_as form t' a' x)) g
    (subst (λ (x : Totals). IfOk r (λ s. bytes s ≡ report_as form t' x b)) f
    (subst (λ (x : Tally). IfOk r (λ s. bytes s ≡ report_as form x a b)) e h))
