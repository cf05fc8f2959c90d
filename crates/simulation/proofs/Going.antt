-- How a run goes on, and what its output is where it stops.
use Rattle.std.proofs.Common.{◌≡◌, List, [], ◌∷◌, ◌++◌, reverse, refl, sym, ap, ◌∙◌, append_assoc}
use Rattle.std.proofs.lemmas.List.{reverse-append}
use Rattle.pcap_file.specs.declared.format.Head.{Head}
use Rattle.pcap_file.specs.Device.{Tape}
use Rattle.pcap_file.specs.Format.{Record}
use Rattle.spreader.specs.Choices.{Choice}
use Rattle.timed_steps.specs.declared.TimedStep.{TimedStep}
use Rattle.cluster_node.specs.declared.events.LogEntry.{LogEntry}
use Rattle.cluster_core.specs.Cluster.{Cluster}
use Rattle.event_trace.specs.Trace.{Trace}
use Rattle.event_trace.specs.Steps.{world_of, run}
use Rattle.event_trace.proofs.Coming.{Grows, run_grows}
use Rattle.simulation.specs.declared.fault.SimulationFault.{SimulationFault}
use Rattle.simulation.specs.Plans.{Planned}
use Rattle.simulation.specs.Intake.{StopsAt}
use Rattle.simulation.specs.Sent.{packets_of, sent, WroteUntil}
use Rattle.simulation.specs.Simulated.{trace_of, traffic_of, sendings}
use Rattle.simulation.specs.PrivateGoing.{onto, counted_here, Left, Shortened}
use Rattle.simulation.proofs.Sends.{sent_append, until_more}

-- a list that grew is, the oldest first, what it was with the new behind it
history_grows : (old news new : List LogEntry) → new ≡ news ++ old → reverse new ≡ reverse old ++ reverse news
history_grows old news new e = ap reverse e ∙ reverse-append news old

-- where a run stops, the output is a beginning of what the plan sends of the records so far
pub shortened : (cluster : Cluster) (choice : Choice) (plan : Planned) (head : Head) (text left begun out : Tape) (fault : SimulationFault) (seen : List Record) (ss : List TimedStep) (c : Trace)
    → StopsAt head text left seen fault → Left cluster choice plan head.link seen ss c → WroteUntil fault begun out (sent (traffic_of plan head.link seen) (reverse c.past)) → Shortened cluster choice plan head text left begun out fault
shortened cluster choice plan head text left begun out fault seen ss c p l b =
    let w = world_of cluster choice (packets_of head.link plan.check seen) in
    let t = traffic_of plan head.link seen in
    let ts = counted_here seen ss c in
    let g : Grows c.past (run w ts c).past = run_grows w ts c in
    let whole : reverse (trace_of cluster choice plan head.link seen).past ≡ reverse c.past ++ reverse g.news = ap (λ (d : Trace). reverse d.past) (sym l) ∙ history_grows c.past g.news (run w ts c).past g.is in
    let all : sendings cluster choice plan head.link seen ≡ sent t (reverse c.past) ++ sent t (reverse g.news) = ap (sent t) whole ∙ sent_append t (reverse c.past) (reverse g.news) in
    record { records = seen; stops = p; wrote = until_more fault begun out (sent t (reverse c.past)) (sent t (reverse g.news)) (sendings cluster choice plan head.link seen) all b }

pub onto_reverse : (p xs : List LogEntry) → onto p xs ≡ reverse xs ++ p
onto_reverse p [] = refl
onto_reverse p (x ∷ xs) = onto_reverse (x ∷ p) xs ∙ sym (reverse_first x xs p)
  where
    reverse_first : (x : LogEntry) (xs p : List LogEntry) → reverse (x ∷ xs) ++ p ≡ reverse xs ++ x ∷ p
    reverse_first x xs p = ap (λ (l : List LogEntry). l ++ p) (reverse-append (x ∷ []) xs) ∙ append_assoc (reverse xs) (x ∷ []) p
