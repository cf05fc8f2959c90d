-- What is sent as events come.
use Rattle.std.proofs.Common.{◌≡◌, ℕ, Bool, true, false, List, [], ◌∷◌, ◌++◌, length, Option, Some, None, Result, Ok, Err, refl, sym, ap, ◌∙◌, subst, arith, slice_get, append-nil}
use Rattle.std.specs.Prelude.{OnOk, if◌then◌else◌}
use Rattle.five_tuple.specs.declared.Flow.{Flow}
use Rattle.pool_versions.specs.declared.backend.Backend.{Backend}
use Rattle.pcap_file.specs.Device.{Tape}
use Rattle.pcap_file.specs.Format.{Record}
use Rattle.cluster_node.specs.declared.outcomes.Outcome.{Outcome}
use Rattle.cluster_node.specs.declared.outcomes.Outcome.TheVariants.{Installed, Placed, Forward, Dropped, Restarted, Refused}
use Rattle.cluster_node.specs.declared.events.Event.{Event}
use Rattle.cluster_node.specs.declared.events.Event.TheVariants.{Install, Arrive, Serve, Restart}
use Rattle.cluster_node.specs.declared.events.LogEntry.{LogEntry}
use Rattle.cluster_node.specs.Records.{Judge, Judged}
use Rattle.cluster_node.specs.declared.outcomes.Passed.{Passed as PassedOn}
use Rattle.cluster_node.specs.declared.outcomes.Passed.TheVariants.{Through}
use Rattle.cluster_node.specs.declared.packets.Packet.{Packet}
use Rattle.cluster_core.specs.Cluster.{Cluster, TakesFirst, Orderly}
use Rattle.event_trace.specs.declared.delivery.Delivery.{Delivery}
use Rattle.event_trace.specs.Deliveries.{came_to, arrival_of, serving_passed, serving_of, if_there, events_of}
use Rattle.waiting_frames.specs.Mirrors.{Mirrors, CanFollow, ComesAs, IsNoArrival}
use Rattle.waiting_frames.specs.Queues.{passes}
use Rattle.simulation.specs.declared.sending.Wire.{Wire}
use Rattle.simulation.specs.Sent.{Traffic, Sending, sent, sent_by, sent_at, Wrote}
use Rattle.simulation.specs.Wires.{traffic}
use Rattle.simulation.specs.Following.{sent_with, ArrivesFirst, CanSettle}
use Rattle.simulation.specs.PrivateGoing.{onto}
use Rattle.waiting_frames.proofs.Passes.{pass_mirrors, pass_sent}
use Rattle.simulation.proofs.Sends.{wrote_none}

pub nothing_sent : (t : Traffic) (o : Outcome) → ((n w i : ℕ) (x : Flow) (b : Backend) (v : ℕ) → o ≡ Forward n w i x b v → ⊥) → sent_by t o ≡ []
unfolding sent_by
nothing_sent t Installed f = refl
nothing_sent t (Placed w k) f = refl
nothing_sent t (Forward n w i x b v) f = absurd (f n w i x b v refl)
nothing_sent t (Dropped k c) f = refl
nothing_sent t (Restarted l) f = refl
nothing_sent t (Refused r) f = refl

pub sent_as_taken : (w : Wire) (all : List Record) (o : Outcome) (r : Record) → ((n u i : ℕ) (x : Flow) (b : Backend) (v : ℕ) → o ≡ Forward n u i x b v → slice_get all i ≡ Some r) → sent_with (traffic w []) o r ≡ sent_by (traffic w all) o
unfolding sent_by sent_with
sent_as_taken w all Installed r f = refl
sent_as_taken w all (Placed u k) r f = refl
sent_as_taken w all (Forward n u i x b v) r f = ap (λ (q : Option Record). sent_at (traffic w all) n b q) (sym (f n u i x b v refl))
sent_as_taken w all (Dropped k c) r f = refl
sent_as_taken w all (Restarted l) r f = refl
sent_as_taken w all (Refused reason) r f = refl

pub wrote_nothing : (a : Tape) (xs : List Sending) → xs ≡ [] → Wrote a a xs
wrote_nothing a xs e = subst (λ (l : List Sending). Wrote a a l) (sym e) (wrote_none a)

pub settled_with : {E : Type 0} (r : Result (Unit {0}) E) (M : Type 0) (a b : Tape) (xs ys : List Sending) → M → xs ≡ ys → OnOk r (Wrote a b xs) → OnOk r (M × Wrote a b ys)
settled_with (Ok u) M a b xs ys m e h = (m, subst (λ (l : List Sending). Wrote a b l) e h)
settled_with (Err x) M a b xs ys m e h = tt

pub judged_onto : (judge : Judge) (past events : List LogEntry) → Judged judge (onto past events) → Judged judge past
judged_onto judge past [] h = h
judged_onto judge past (s ∷ ss) h = (judged_onto judge (s ∷ past) ss h).1

-- one event was followed
pub settled_one : {E : Type 0} (r : Result (Unit {0}) E) (M : Type 0) (t : Traffic) (s : LogEntry) (a b : Tape) → OnOk r (M × Wrote a b (sent_by t s.outcome)) → OnOk r (M × Wrote a b (sent t (s ∷ [])))
settled_one r M t s a b h = subst (λ (l : List Sending). OnOk r (M × Wrote a b l)) (sym (append-nil (sent_by t s.outcome))) h

no_serve : (all : List Record) (r : Record) (e : Event) (n w v : ℕ) (b : Bool) → ComesAs all r e → e ≡ Serve n w v b → ⊥
no_serve all r (Install m u) n w v b c e = c
no_serve all r (Arrive m i marks) n w v b c e = let bad : Arrive m i marks ≡ Serve n w v b = e in cc
no_serve all r (Serve m u q f) n w v b c e = c
no_serve all r (Restart m) n w v b c e = c

-- an arrival sends nothing
arrival_sends : (all : List Record) (k : Cluster) (past : List LogEntry) (s : LogEntry) (r : Record) (t : Traffic) → Orderly k → Judged k.judge (s ∷ past) → ComesAs all r s.event → sent_by t s.outcome ≡ []
arrival_sends all k past s r t o j c = nothing_sent t s.outcome (λ n w i x b v e.
    let f : TakesFirst k past s.event n w i = o.first past s.event s.packet n w i x b v (sym j.0 ∙ e) in
    no_serve all r s.event n w f.version f.refused c f.event)

pub can_first : (all : List Record) (k : Cluster) (past rest : List LogEntry) (s : LogEntry) (qs : List (List Record)) → CanSettle all k past (s ∷ rest) qs → CanFollow all k past s qs
can_first all k past rest s qs can = record { workers = can.workers; room = can.room; orderly = can.orderly; judged = judged_onto k.judge (s ∷ past) rest can.judged; mirrors = can.mirrors }

pub can_rest : (all : List Record) (k : Cluster) (past rest : List LogEntry) (s : LogEntry) (qs ps : List (List Record)) → CanSettle all k past (s ∷ rest) qs → length ps ≡ length qs → Mirrors all k (s ∷ past) ps → CanSettle all k (s ∷ past) rest ps
can_rest all k past rest s qs ps can e m = record { workers = can.workers; room = omega (arith, can.room, e); orderly = can.orderly; judged = can.judged; mirrors = m }

pub all_sent : (all : List Record) (k : Cluster) (past rest : List LogEntry) (s : LogEntry) (r : Record) (qs : List (List Record)) (t : Traffic) → CanSettle all k past (s ∷ rest) qs → ComesAs all r s.event → sent t (s ∷ rest) ≡ sent t rest
all_sent all k past rest s r qs t can c = ap (λ (l : List Sending). l ++ sent t rest) (arrival_sends all k past s r t can.orderly (judged_onto k.judge (s ∷ past) rest can.judged) c)

-- an arrival and what takes its packet out at once send what is sent of its record
pub sent_passed : (w : Wire) (all : List Record) (k : Cluster) (past : List LogEntry) (s t : LogEntry) (r : Record) (qs : List (List Record)) → CanSettle all k past (s ∷ t ∷ []) qs → ComesAs all r s.event
    → ((n u i : ℕ) (x : Flow) (b : Backend) (v : ℕ) → t.outcome ≡ Forward n u i x b v → slice_get all i ≡ Some r) → sent_with (traffic w []) t.outcome r ≡ sent (traffic w all) (s ∷ t ∷ [])
sent_passed w all k past s t r qs can c f = sent_as_taken w all t.outcome r f ∙ sym (append-nil (sent_by (traffic w all) t.outcome)) ∙ sym (all_sent all k past (t ∷ []) s r qs (traffic w all) can c)

-- the packet of the first of two events passed: what the queues mirror behind both, and what both send
pub record Passed (w : Wire) (all : List Record) (k : Cluster) (past events : List LogEntry) (t : LogEntry) (r : Record) (qs : List (List Record)) : Type 0 where
  pub mirrors : Mirrors all k (onto past events) qs
  pub sends : sent_with (traffic w []) t.outcome r ≡ sent (traffic w all) events

pub passed : (w : Wire) (all : List Record) (k : Cluster) (past events : List LogEntry) (s t : LogEntry) (r : Record) (qs : List (List Record)) → events ≡ s ∷ t ∷ [] → passes s t qs ≡ true → CanSettle all k past events qs → ArrivesFirst all r events → Passed w all k past events t r qs
passed w all k past events s t r qs is alone can first =
    let can' = subst (λ (l : List LogEntry). CanSettle all k past l qs) is can in
    let first' = subst (λ (l : List LogEntry). ArrivesFirst all r l) is first in
    let f = can_first all k past (t ∷ []) s qs can' in
    record {
      mirrors = subst (λ (l : List LogEntry). Mirrors all k (onto past l) qs) (sym is) (pass_mirrors all k past s t r qs alone f first'.0 can'.judged);
      sends = sent_passed w all k past s t r qs can' first'.0 (pass_sent all k past s t r qs alone f first'.0 can'.judged) ∙ ap (sent (traffic w all)) (sym is);
    }

-- the events that a delivery tells
told_arrived : (p : Packet) (d : Delivery) → d.arrived ≡ true → events_of p d ≡ arrival_of p d ∷ if_there (serving_of d)
told_arrived p d h = ap (λ (b : Bool). if b then arrival_of p d ∷ if_there (serving_of d) else []) h

pub told_one : (p : Packet) (d : Delivery) (s : LogEntry) → d.arrived ≡ true → s ≡ arrival_of p d → serving_of d ≡ None → events_of p d ≡ s ∷ []
told_one p d s h e none = told_arrived p d h ∙ ap (λ (x : LogEntry). x ∷ if_there (serving_of d)) (sym e) ∙ ap (λ (x : Option LogEntry). s ∷ if_there x) none

pub told_both : (p : Packet) (d : Delivery) (s t : LogEntry) → d.arrived ≡ true → s ≡ arrival_of p d → serving_of d ≡ Some t → events_of p d ≡ s ∷ t ∷ []
told_both p d s t h e some = told_arrived p d h ∙ ap (λ (x : LogEntry). x ∷ if_there (serving_of d)) (sym e) ∙ ap (λ (x : Option LogEntry). s ∷ if_there x) some

-- the two of a packet that was served at once
abbrev pub placed_there : Packet → Delivery → ℕ → ℕ → LogEntry
placed_there p d u floor = record { event = Arrive d.node d.place d.refused; packet = Some p; outcome = Placed u floor }

abbrev pub served_there : Delivery → ℕ → Outcome → LogEntry
served_there d u o = record { event = Serve d.node u d.version false; packet = None; outcome = o }

pub told_served : (p : Packet) (d : Delivery) (u floor : ℕ) (o : Outcome) → d.arrived ≡ true → d.passed ≡ Through u floor o → events_of p d ≡ placed_there p d u floor ∷ served_there d u o ∷ []
told_served p d u floor o h e =
    told_arrived p d h
    ∙ ap (λ (q : PassedOn). record { event = Arrive d.node d.place d.refused; packet = Some p; outcome = came_to q } ∷ if_there (serving_passed d.node d.version q)) e

-- the first of the events that a delivery tells can be followed
pub record First_of (all : List Record) (k : Cluster) (past : List LogEntry) (s : LogEntry) (r : Record) (qs : List (List Record)) : Type 0 where
  pub can : CanFollow all k past s qs
  pub comes : ComesAs all r s.event

pub first_of : (all : List Record) (k : Cluster) (past events rest : List LogEntry) (s : LogEntry) (r : Record) (qs : List (List Record)) → events ≡ s ∷ rest → CanSettle all k past events qs → ArrivesFirst all r events → First_of all k past s r qs
first_of all k past events rest s r qs is can first = record {
  can = can_first all k past rest s qs (subst (λ (l : List LogEntry). CanSettle all k past l qs) is can);
  comes = (subst (λ (l : List LogEntry). ArrivesFirst all r l) is first).0;
}

-- it sends nothing
pub first_sends : (w : Wire) (all : List Record) (k : Cluster) (past events rest : List LogEntry) (s : LogEntry) (r : Record) (qs : List (List Record)) → events ≡ s ∷ rest → CanSettle all k past events qs → ArrivesFirst all r events → sent (traffic w all) rest ≡ sent (traffic w all) events
first_sends w all k past events rest s r qs is can first =
    sym (ap (sent (traffic w all)) is ∙ all_sent all k past rest s r qs (traffic w all) (subst (λ (l : List LogEntry). CanSettle all k past l qs) is can) (first_of all k past events rest s r qs is can first).comes)

-- an arrival was followed, and what stands behind it
pub record Behind_arrival (w : Wire) (all : List Record) (k : Cluster) (past events : List LogEntry) (s t : LogEntry) (ps : List (List Record)) : Type 0 where
  pub can : CanFollow all k (s ∷ past) t ps
  pub quiet : IsNoArrival t.event
  pub sends : sent_by (traffic w all) t.outcome ≡ sent (traffic w all) events

pub behind_arrival : (w : Wire) (all : List Record) (k : Cluster) (past events : List LogEntry) (s t : LogEntry) (r : Record) (qs ps : List (List Record)) → events ≡ s ∷ t ∷ [] → CanSettle all k past events qs → ArrivesFirst all r events → length ps ≡ length qs → Mirrors all k (s ∷ past) ps → Behind_arrival w all k past events s t ps
behind_arrival w all k past events s t r qs ps is can first e m =
    let can' = subst (λ (l : List LogEntry). CanSettle all k past l qs) is can in
    let first' = subst (λ (l : List LogEntry). ArrivesFirst all r l) is first in
    record {
      can = can_first all k (s ∷ past) [] t ps (can_rest all k past (t ∷ []) s qs ps can' e m);
      quiet = first'.1.0;
      sends = sym (append-nil (sent_by (traffic w all) t.outcome)) ∙ first_sends w all k past events (t ∷ []) s r qs is can first;
    }
