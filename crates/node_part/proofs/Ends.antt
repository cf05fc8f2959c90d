-- What a part's run sends, and how it ends.
use Rattle.std.proofs.Common.{◌≡◌, inl, inr, ℕ, Bool, true, false, List, [], ◌∷◌, ◌++◌, reverse, length, map, Option, refl, sym, ap, ◌∙◌, subst, append-nil}
use Rattle.std.proofs.lemmas.List.{reverse-append}
use Rattle.std.specs.Io.KnownBytes.{Appends}
use Rattle.ip_headers.specs.declared.Link.{Link}
use Rattle.pcap_file.specs.declared.format.InputEnd.{InputEnd}
use Rattle.pcap_file.specs.Device.{Tape}
use Rattle.pcap_file.specs.Format.{Record}
use Rattle.spreader.specs.Choices.{Choice}
use Rattle.cluster_node.specs.declared.packets.Packet.{Packet}
use Rattle.cluster_node.specs.declared.events.LogEntry.{LogEntry}
use Rattle.cluster_node.specs.declared.outcomes.Outcome.{Outcome}
use Rattle.cluster_node.specs.declared.outcomes.Outcome.TheVariants.{Refused}
use Rattle.cluster_node.specs.declared.outcomes.Reason.TheVariants.{NoNode}
use Rattle.cluster_node.specs.Records.{node_of}
use Rattle.cluster_core.specs.Cluster.{Cluster}
use Rattle.event_trace.specs.declared.steps.ScenarioStep.{ScenarioStep}
use Rattle.event_trace.specs.Trace.{Trace}
use Rattle.event_trace.specs.Steps.{world_of, start}
use Rattle.event_trace.proofs.Judging.{run_told}
use Rattle.timed_steps.specs.Timed.{counted}
use Rattle.simulation.specs.declared.fault.SimulationFault.{SimulationFault}
use Rattle.simulation.specs.Plans.{Planned}
use Rattle.simulation.specs.Sent.{Traffic, Sending, sent, sent_by, packets_of, time_of, capture_text}
use Rattle.simulation.specs.Simulated.{trace_of, traffic_of, sendings, Simulated, Stopped, CaptureUntil}
use Rattle.simulation.proofs.Sends.{sent_append}
use Rattle.node_part.specs.Parts.{leaves_out, of_part, part_of, part_trace, LeavesOthers, IsOwn}
use Rattle.node_part.specs.Wholes.{traced}
use Rattle.node_part.specs.Played.{part_sendings, PartSimulated, PartStopped}
use Rattle.node_part.proofs.Parts.{none_of, kept_of, left_of, others_judged}
use Rattle.node_part.proofs.Wholes.{parts_are}

refused_sends : (t : Traffic) → sent_by t (Refused NoNode) ≡ []
unfolding sent_by
refused_sends t = refl

-- one more event sends behind those before it
sent_more : (t : Traffic) (s : LogEntry) (past : List LogEntry) → sent t (reverse (s ∷ past)) ≡ sent t (reverse past) ++ sent_by t s.outcome
sent_more t s past =
    ap (sent t) (reverse-append (s ∷ []) past) ∙ sent_append t (reverse past) (s ∷ []) ∙ ap (λ (l : List Sending). sent t (reverse past) ++ l) (append-nil (sent_by t s.outcome))

part_sends : (only : Option ℕ) (t : Traffic) (past : List LogEntry) → LeavesOthers only past → sent t (reverse past) ≡ sent t (reverse (of_part only past))
part_sends only t [] k = ap (λ (l : List LogEntry). sent t (reverse l)) (sym (none_of only))
part_sends only t (s ∷ past) k = go (leaves_out only (node_of s.event)) refl (part_sends only t past k.1)
  where
    go : (b : Bool) → leaves_out only (node_of s.event) ≡ b → sent t (reverse past) ≡ sent t (reverse (of_part only past)) → sent t (reverse (s ∷ past)) ≡ sent t (reverse (of_part only (s ∷ past)))
    go true h more =
        sent_more t s past
        ∙ ap (λ (o : Outcome). sent t (reverse past) ++ sent_by t o) (k.0 h)
        ∙ ap (λ (l : List Sending). sent t (reverse past) ++ l) (refused_sends t)
        ∙ append-nil (sent t (reverse past))
        ∙ more
        ∙ ap (λ (l : List LogEntry). sent t (reverse l)) (sym (left_of only s past h))
    go false h more =
        sent_more t s past
        ∙ ap (λ (l : List Sending). l ++ sent_by t s.outcome) more
        ∙ sym (sent_more t s (of_part only past))
        ∙ ap (λ (l : List LogEntry). sent t (reverse l)) (sym (kept_of only s past h))

pub parts_send : (only : Option ℕ) (cluster : Cluster) (choice : Choice) (packets : List Packet) (ss : List ScenarioStep) (nodes : ℕ) → IsOwn cluster.judge → (t : Traffic)
    → sent t (reverse (traced (part_of only cluster) choice packets ss nodes).past) ≡ sent t (reverse (of_part only (traced cluster choice packets ss nodes).past))
parts_send only cluster choice packets ss nodes own t =
    part_sends only t (traced (part_of only cluster) choice packets ss nodes).past
    (others_judged only cluster.judge (traced (part_of only cluster) choice packets ss nodes).past (run_told (world_of (part_of only cluster) choice packets) ss (start nodes) tt))
    ∙ ap (λ (c : Trace). sent t (reverse c.past)) (parts_are only cluster choice packets ss nodes own)

-- the same of a plan's steps over a capture's records
pub trace_parts : (only : Option ℕ) (k : Cluster) (choice : Choice) (plan : Planned) (link : Link) (records : List Record) → IsOwn k.judge
    → part_trace only (trace_of (part_of only k) choice plan link records) ≡ part_trace only (trace_of k choice plan link records)
unfolding trace_of
trace_parts only k choice plan link records own = parts_are only k choice (packets_of link plan.check records) (counted (map time_of records) plan.steps) (length plan.nodes) own

pub sendings_parts : (only : Option ℕ) (k : Cluster) (choice : Choice) (plan : Planned) (link : Link) (records : List Record) → IsOwn k.judge
    → sendings (part_of only k) choice plan link records ≡ part_sendings only k choice plan link records
unfolding trace_of
sendings_parts only k choice plan link records own = parts_send only k choice (packets_of link plan.check records) (counted (map time_of records) plan.steps) (length plan.nodes) own (traffic_of plan link records)

-- a part's run that came to its end, by the whole run
pub record Ended (only : Option ℕ) (k : Cluster) (choice : Choice) (plan : Planned) (i i' o o' : Tape) (part : Trace) (packets : ℕ) (ending : InputEnd) : Type 0 where
  pub trace : Trace
  pub simulated : PartSimulated only k choice plan i i' o o' trace packets ending
  pub same : part_trace only part ≡ part_trace only trace

pub part_ended : (only : Option ℕ) (k : Cluster) (choice : Choice) (plan : Planned) (i i' o o' : Tape) (c : Trace) (n : ℕ) (e : InputEnd) → IsOwn k.judge → Simulated (part_of only k) choice plan i i' o o' c n e → Ended only k choice plan i i' o o' c n e
part_ended only k choice plan i i' o o' c n e own s = record {
  trace = trace_of k choice plan s.head.link s.records;
  simulated = record {
    head = s.head;
    records = s.records;
    input_is = s.input_is;
    input_unfailed = s.input_unfailed;
    trace_is = refl;
    count = s.count;
    output_is = subst (λ (l : List Sending). Appends o.bytes o'.bytes (capture_text l)) (sendings_parts only k choice plan s.head.link s.records own) s.output_is;
    output_unfailed = s.output_unfailed;
  };
  same = ap (part_trace only) s.trace_is ∙ trace_parts only k choice plan s.head.link s.records own;
}

-- a part's run that stopped, by the whole run
pub part_stopped : (only : Option ℕ) (k : Cluster) (choice : Choice) (plan : Planned) (i i' o o' : Tape) (fault : SimulationFault) → IsOwn k.judge → Stopped (part_of only k) choice plan i i' o o' fault → PartStopped only k choice plan i i' o o' fault
part_stopped only k choice plan i i' o o' fault own (inl h) = inl h
part_stopped only k choice plan i i' o o' fault own (inr (inl h)) = inr (inl h)
part_stopped only k choice plan i i' o o' fault own (inr (inr s)) = inr (inr (record {
  head = s.head;
  text = s.text;
  header = s.header;
  unfailed = s.unfailed;
  within = s.within;
  records = s.records;
  stops = s.stops;
  wrote = subst (λ (l : List Sending). CaptureUntil fault o o' l) (sendings_parts only k choice plan s.head.link s.records own) s.wrote;
}))
