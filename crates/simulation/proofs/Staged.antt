-- How a run moves as events come behind it.
use Rattle.std.proofs.Common.{◌≡◌, ◌⊎◌, ℕ, Bool, true, false, List, [], ◌∷◌, ◌++◌, length, drop, reverse, Some, Result, Ok, Err, refl, sym, ap, ◌∙◌, subst, arith, append_assoc, drop_at, slice_get, inl, inr, OnOk, IfErr}
use Rattle.std.proofs.lemmas.List.{reverse-append, reverse-reverse}
use Rattle.ip_headers.specs.declared.Link.{Link}
use Rattle.pcap_file.specs.Device.{Tape}
use Rattle.pcap_file.specs.Format.{Record}
use Rattle.cluster_node.specs.declared.events.Event.{Event}
use Rattle.cluster_node.specs.declared.events.Event.TheVariants.{Install, Arrive, Serve, Restart}
use Rattle.cluster_node.specs.declared.events.LogEntry.{LogEntry}
use Rattle.cluster_node.specs.declared.packets.Packet.{Packet}
use Rattle.cluster_node.specs.Records.{Judged}
use Rattle.cluster_core.specs.Cluster.{Cluster, Behind}
use Rattle.event_trace.specs.Trace.{Trace}
use Rattle.event_trace.specs.declared.steps.ScenarioStep.{ScenarioStep}
use Rattle.event_trace.specs.declared.steps.ScenarioStep.TheVariants as steps
use Rattle.event_trace.specs.Steps.{World, deliver, serve, drain_from, release, after, names_records, says_many}
use Rattle.event_trace.proofs.Quiet.{is_arrival, Quiet, Calm, Arrived, deliver_arrives, serve_calm, apart_calm}
use Rattle.event_trace.proofs.Coming.{Grows, drain_is}
use Rattle.event_trace.proofs.Judging.{deliver_told, serve_told, after_told}
use Rattle.waiting_frames.specs.Mirrors.{Mirrors, ComesAs, IsNoArrival}
use Rattle.simulation.specs.declared.fault.SimulationFault.{SimulationFault}
use Rattle.simulation.specs.declared.fault.SimulationFault.TheVariants.{Memory}
use Rattle.simulation.specs.Plans.{Planned}
use Rattle.simulation.specs.Sent.{Sending, sent, Wrote, WroteUntil}
use Rattle.simulation.specs.Simulated.{traffic_of}
use Rattle.simulation.specs.PrivateGoing.{onto}
use Rattle.simulation.specs.Following.{NoArrivals, ArrivesFirst, CanSettle}
use Rattle.simulation.specs.PrivateStages.{Sound}
use Rattle.simulation.proofs.Sends.{sent_append, wrote_both, first_all, until_more, until_behind}
use Rattle.simulation.proofs.Going.{onto_reverse}

-- a trace went on with these events, the newest in front
pub record Moved (c d : Trace) : Type 0 where
  pub news : List LogEntry
  pub is : d.past ≡ news ++ c.past

pub history_moved : (c d : Trace) (m : Moved c d) → reverse d.past ≡ reverse c.past ++ reverse m.news
history_moved c d m = ap reverse m.is ∙ reverse-append m.news c.past

-- what stands behind the history of the trace that went on
pub events_behind : (c d : Trace) (m : Moved c d) (events : List LogEntry) → Behind (reverse c.past) d.past events → events ≡ reverse m.news
events_behind c d m events e =
    let n : ℕ = length (reverse c.past) in
    sym (drop_at (reverse c.past) events n refl) ∙ ap (λ (l : List LogEntry). drop n l) (sym e ∙ history_moved c d m) ∙ drop_at (reverse c.past) (reverse m.news) n refl

onto_moved : (c d : Trace) (m : Moved c d) → onto c.past (reverse m.news) ≡ d.past
onto_moved c d m = onto_reverse c.past (reverse m.news) ∙ ap (λ (l : List LogEntry). l ++ c.past) (reverse-reverse m.news) ∙ sym m.is

pub can_settle : (k : Cluster) (plan : Planned) (link : Link) (all : List Record) (c d : Trace) (m : Moved c d) (events : List LogEntry) (qs : List (List Record)) (begun out : Tape)
    → Sound k plan link all c qs begun out → Judged k.judge d.past → events ≡ reverse m.news → CanSettle all k c.past events qs
can_settle k plan link all c d m events qs begun out s j e = record {
  workers = s.workers;
  room = s.room;
  orderly = s.orderly;
  judged = subst (λ (l : List LogEntry). Judged k.judge l) (sym (ap (λ (l : List LogEntry). onto c.past l) e ∙ onto_moved c d m)) j;
  mirrors = s.mirrors;
}

sent_moved : (plan : Planned) (link : Link) (all : List Record) (c d : Trace) (m : Moved c d) (events : List LogEntry) → events ≡ reverse m.news
    → sent (traffic_of plan link all) (reverse d.past) ≡ sent (traffic_of plan link all) (reverse c.past) ++ sent (traffic_of plan link all) events
sent_moved plan link all c d m events e =
    ap (sent (traffic_of plan link all)) (history_moved c d m ∙ ap (λ (l : List LogEntry). reverse c.past ++ l) (sym e)) ∙ sent_append (traffic_of plan link all) (reverse c.past) events

sound_moved : (k : Cluster) (plan : Planned) (link : Link) (all : List Record) (c d : Trace) (m : Moved c d) (events : List LogEntry) (qs ps : List (List Record)) (begun out new : Tape)
    → Sound k plan link all c qs begun out → Judged k.judge d.past → events ≡ reverse m.news → length ps ≡ length qs
    → Mirrors all k (onto c.past events) ps × Wrote out new (sent (traffic_of plan link all) events) → Sound k plan link all d ps begun new
sound_moved k plan link all c d m events qs ps begun out new s j e n h = record {
  workers = s.workers;
  room = omega (arith, s.room, n);
  orderly = s.orderly;
  judged = j;
  mirrors = subst (λ (l : List LogEntry). Mirrors all k l ps) (ap (λ (l : List LogEntry). onto c.past l) e ∙ onto_moved c d m) h.0;
  sent = subst (λ (l : List Sending). Wrote begun new l) (sym (sent_moved plan link all c d m events e))
      (wrote_both begun out new (sent (traffic_of plan link all) (reverse c.past)) (sent (traffic_of plan link all) events) s.sent h.1);
}

pub sound_after : (k : Cluster) (plan : Planned) (link : Link) (all : List Record) (c d : Trace) (m : Moved c d) (events : List LogEntry) (qs ps : List (List Record)) (begun out new : Tape) (r : Result (Unit {0}) SimulationFault)
    → Sound k plan link all c qs begun out → Judged k.judge d.past → events ≡ reverse m.news → length ps ≡ length qs
    → OnOk r (Mirrors all k (onto c.past events) ps × Wrote out new (sent (traffic_of plan link all) events)) → OnOk r (Sound k plan link all d ps begun new)
sound_after k plan link all c d m events qs ps begun out new (Ok u) s j e n h = sound_moved k plan link all c d m events qs ps begun out new s j e n h
sound_after k plan link all c d m events qs ps begun out new (Err f) s j e n h = tt

pub cut_before : (k : Cluster) (plan : Planned) (link : Link) (all : List Record) (c d : Trace) (m : Moved c d) (qs : List (List Record)) (begun out : Tape)
    → Sound k plan link all c qs begun out → WroteUntil Memory begun out (sent (traffic_of plan link all) (reverse d.past))
cut_before k plan link all c d m qs begun out s =
    until_more Memory begun out (sent (traffic_of plan link all) (reverse c.past)) (sent (traffic_of plan link all) (reverse m.news)) (sent (traffic_of plan link all) (reverse d.past))
    (sent_moved plan link all c d m (reverse m.news) refl) (first_all begun out (sent (traffic_of plan link all) (reverse c.past)) s.sent)

pub cut_after : (k : Cluster) (plan : Planned) (link : Link) (all : List Record) (c d : Trace) (m : Moved c d) (events : List LogEntry) (qs : List (List Record)) (begun out new : Tape) (r : Result (Unit {0}) SimulationFault)
    → Sound k plan link all c qs begun out → events ≡ reverse m.news
    → IfErr r (λ f. WroteUntil f out new (sent (traffic_of plan link all) events)) → IfErr r (λ f. WroteUntil f begun new (sent (traffic_of plan link all) (reverse d.past)))
cut_after k plan link all c d m events qs begun out new (Ok u) s e h = tt
cut_after k plan link all c d m events qs begun out new (Err f) s e h =
    subst (λ (l : List Sending). WroteUntil f begun new l) (sym (sent_moved plan link all c d m events e))
    (until_behind f begun out new (sent (traffic_of plan link all) (reverse c.past)) (sent (traffic_of plan link all) events) s.sent h)

-- what was written of a trace's beginning was written of the trace
pub cut_grown : (plan : Planned) (link : Link) (all : List Record) (c d : Trace) (fault : SimulationFault) (begun out : Tape) → Grows c.past d.past
    → WroteUntil fault begun out (sent (traffic_of plan link all) (reverse c.past)) → WroteUntil fault begun out (sent (traffic_of plan link all) (reverse d.past))
cut_grown plan link all c d fault begun out g h =
    let m : Moved c d = record { news = g.news; is = g.is } in
    until_more fault begun out (sent (traffic_of plan link all) (reverse c.past)) (sent (traffic_of plan link all) (reverse g.news)) (sent (traffic_of plan link all) (reverse d.past))
    (sent_moved plan link all c d m (reverse g.news) refl) h

quiet_event : (e : Event) → is_arrival e ≡ false → IsNoArrival e
quiet_event (Install n v) h = tt
quiet_event (Arrive n i marks) h = let bad : true ≡ false = h in cc
quiet_event (Serve n w v r) h = tt
quiet_event (Restart n) h = tt

no_arrivals : (a b : List LogEntry) → NoArrivals a → NoArrivals b → NoArrivals (a ++ b)
no_arrivals [] b p q = q
no_arrivals (s ∷ a) b p q = (p.0, no_arrivals a b p.1 q)

quiet_history : (a : List LogEntry) → Quiet a → NoArrivals (reverse a)
quiet_history [] q = tt
quiet_history (s ∷ a) q = subst NoArrivals (sym (reverse-append (s ∷ []) a)) (no_arrivals (reverse a) (s ∷ []) (quiet_history a q.1) (quiet_event s.event q.0, tt))

comes : (all : List Record) (r : Record) (k n : ℕ) (marks : List Bool) (e : Event) → e ≡ Arrive n k marks → slice_get all k ≡ Some r → ComesAs all r e
comes all r k n marks e i h = subst (λ (x : Event). ComesAs all r x) (sym i) h

-- a packet that is delivered arrives first, if at all
pub record Arriving (all : List Record) (r : Record) (c d : Trace) : Type 0 where
  pub moved : Moved c d
  pub first : ArrivesFirst all r (reverse moved.news)

arriving_of : (all : List Record) (r : Record) (k : ℕ) (c d : Trace) → slice_get all k ≡ Some r → ((d.past ≡ c.past) ⊎ Arrived k c.past d.past) → Arriving all r c d
arriving_of all r k c d h (inl e) = record { moved = record { news = []; is = e }; first = tt }
arriving_of all r k c d h (inr a) = record {
  moved = record { news = a.later ++ a.arrival ∷ []; is = a.is ∙ sym (append_assoc a.later (a.arrival ∷ []) c.past) };
  first = subst (λ (l : List LogEntry). ArrivesFirst all r l) (sym (reverse-append a.later (a.arrival ∷ []))) (comes all r k a.node a.marks a.arrival.event a.event h, quiet_history a.later a.quiet);
}

pub delivered : (w : World) (k : ℕ) (p : Packet) (all : List Record) (r : Record) (c d : Trace) → d ≡ deliver w k p c → slice_get all k ≡ Some r → Arriving all r c d
delivered w k p all r c d e h = subst (λ (x : Trace). Arriving all r c x) (sym e) (arriving_of all r k c (deliver w k p c) h (deliver_arrives w k p c))

pub delivered_told : (w : World) (j : Cluster) (k : ℕ) (p : Packet) (c d : Trace) → w.cluster ≡ j → d ≡ deliver w k p c → Judged j.judge c.past → Judged j.judge d.past
delivered_told w j k p c d i e h =
    subst (λ (x : Cluster). Judged x.judge d.past) i (subst (λ (x : Trace). Judged w.cluster.judge x.past) (sym e) (deliver_told w k p c (subst (λ (x : Cluster). Judged x.judge c.past) (sym i) h)))

-- a step that names no record brings no arrival
pub record Quietly (c d : Trace) : Type 0 where
  pub moved : Moved c d
  pub quiet : NoArrivals (reverse moved.news)

pub stepped : (w : World) (s : _) (c d : Trace) → names_records s ≡ false → d ≡ after w s c → Quietly c d
stepped w s c d h e =
    let calm : Calm c.past (after w s c).past = apart_calm w s c h in
    subst (λ (x : Trace). Quietly c x) (sym e) (record { moved = record { news = calm.news; is = calm.is }; quiet = quiet_history calm.news calm.quiet })

pub stepped_told : (w : World) (j : Cluster) (s : _) (c d : Trace) → w.cluster ≡ j → d ≡ after w s c → Judged j.judge c.past → Judged j.judge d.past
stepped_told w j s c d i e h =
    subst (λ (x : Cluster). Judged x.judge d.past) i (subst (λ (x : Trace). Judged w.cluster.judge x.past) (sym e) (after_told w s c (subst (λ (x : Cluster). Judged x.judge c.past) (sym i) h)))

-- a serving brings none either
pub served : (w : World) (n u : ℕ) (c d : Trace) → d ≡ serve w n u c → Quietly c d
served w n u c d e =
    let calm : Calm c.past (serve w n u c).past = serve_calm w n u c in
    subst (λ (x : Trace). Quietly c x) (sym e) (record { moved = record { news = calm.news; is = calm.is }; quiet = quiet_history calm.news calm.quiet })

pub served_told : (w : World) (j : Cluster) (n u : ℕ) (c d : Trace) → w.cluster ≡ j → d ≡ serve w n u c → Judged j.judge c.past → Judged j.judge d.past
served_told w j n u c d i e h =
    subst (λ (x : Cluster). Judged x.judge d.past) i (subst (λ (x : Trace). Judged w.cluster.judge x.past) (sym e) (serve_told w n u c (subst (λ (x : Cluster). Judged x.judge c.past) (sym i) h)))

-- a step that says one event at most names no record
pub names_few : (s : ScenarioStep) → says_many s ≡ false → names_records s ≡ false
names_few (steps.Install n v) h = refl
names_few (steps.Live ns) h = refl
names_few (steps.Take k) h = h
names_few (steps.Lose k) h = h
names_few (steps.Again k) h = h
names_few (steps.Full n m) h = refl
names_few (steps.Hold n) h = refl
names_few (steps.Drain n) h = refl
names_few (steps.Restart n) h = refl
names_few (steps.Stop n) h = refl

-- a node's hold ended, and its workers served what waited for them
pub drained : (w : World) (k : Cluster) (n workers : ℕ) (s : ScenarioStep) (c r d : Trace) → w.cluster ≡ k → workers ≡ k.workers → s ≡ steps.Drain n → r ≡ release n c → d ≡ drain_from w n 0 workers r → d ≡ after w s c
drained w k n workers s c r d i m e f h =
    h ∙ ap (λ (x : Trace). drain_from w n 0 workers x) f
    ∙ ap (λ (t : ℕ). drain_from w n 0 t (release n c)) (m ∙ ap (λ (x : Cluster). x.workers) (sym i))
    ∙ sym (drain_is w n c) ∙ ap (λ (x : ScenarioStep). after w x c) (sym e)
