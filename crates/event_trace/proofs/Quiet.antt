-- Which events are arrivals: of a packet that is delivered the first alone, and none of a step that names no record.
use Rattle.cluster_node.specs.Records.{said, placed_on}
use Rattle.std.proofs.Common.{◌≡◌, ◌⊎◌, ℕ, zero, suc, ◌+◌, Bool, true, false, List, [], ◌∷◌, ◌++◌, Option, Some, None, refl, sym, ap, ◌∙◌, append_assoc, inl, inr}
use Rattle.std.specs.Prelude.{if◌then◌else◌}
use Rattle.cluster_node.specs.declared.events.Event.{Event}
use Rattle.cluster_node.specs.declared.events.Event.TheVariants.{Install, Arrive, Serve, Restart}
use Rattle.cluster_node.specs.declared.events.LogEntry.{LogEntry}
use Rattle.cluster_node.specs.declared.packets.Packet.{Packet}
use Rattle.cluster_core.specs.Cluster.{flow_of, waiting_on}
use Rattle.event_trace.specs.declared.steps.ScenarioStep.{ScenarioStep}
use Rattle.event_trace.specs.declared.steps.ScenarioStep.TheVariants as steps
use Rattle.event_trace.specs.Trace.{Trace}
use Rattle.event_trace.specs.Steps.{World, is_held, say, serve, follow, arrival, arrive, route, deliver, serve_times, drain_from, release, names_records, after}

abbrev pub is_arrival : Event → Bool
is_arrival (Install n v) = false
is_arrival (Arrive n k marks) = true
is_arrival (Serve n w v r) = false
is_arrival (Restart n) = false

-- no arrival among these
abbrev pub Quiet : List LogEntry → Type 0
Quiet [] = Unit {0}
Quiet (s ∷ ss) = (is_arrival s.event ≡ false) × Quiet ss

pub quiet_append : (a b : List LogEntry) → Quiet a → Quiet b → Quiet (a ++ b)
quiet_append [] b p q = q
quiet_append (s ∷ a) b p q = (p.0, quiet_append a b p.1 q)

-- the list goes on with events that are no arrivals
pub record Calm (old new : List LogEntry) : Type 0 where
  pub news : List LogEntry
  pub is : new ≡ news ++ old
  pub quiet : Quiet news

calm_none : (a : List LogEntry) → Calm a a
calm_none a = record { news = []; is = refl; quiet = tt }

calm_both : (a b c : List LogEntry) → Calm a b → Calm b c → Calm a c
calm_both a b c p q = record { news = q.news ++ p.news; is = q.is ∙ ap (λ (l : List LogEntry). q.news ++ l) p.is ∙ sym (append_assoc q.news p.news a); quiet = quiet_append q.news p.news q.quiet p.quiet }

pub serve_calm : (w : World) (n u : ℕ) (c : Trace) → Calm c.past (serve w n u c).past
unfolding serve
serve_calm w n u c = record { news = said w.cluster.judge c.past _ None ∷ []; is = refl; quiet = (refl, tt) }

held_calm : (w : World) (n u : ℕ) (c : Trace) (b : Bool) → Calm c.past (if b then c else serve w n u c).past
held_calm w n u c true = calm_none c.past
held_calm w n u c false = serve_calm w n u c

follow_calm : (w : World) (n : ℕ) (o : Option ℕ) (c : Trace) → Calm c.past (follow w n o c).past
unfolding follow
follow_calm w n None c = calm_none c.past
follow_calm w n (Some u) c = held_calm w n u c (is_held n c)

-- the arrival of a packet, and what follows it
pub record Arrived (k : ℕ) (old new : List LogEntry) : Type 0 where
  pub arrival : LogEntry
  pub node : ℕ
  pub marks : List Bool
  pub event : arrival.event ≡ Arrive node k marks
  pub later : List LogEntry
  pub is : new ≡ later ++ arrival ∷ old
  pub quiet : Quiet later

arrive_arrives : (w : World) (n k : ℕ) (p : Packet) (c : Trace) → Arrived k c.past (arrive w n k p c).past
unfolding arrive
arrive_arrives w n k p c =
    let one : Trace = say w (arrival n k c) (Some p) c in
    let calm : Calm one.past (follow w n (placed_on (w.cluster.judge c.past (arrival n k c) (Some p))) one).past = follow_calm w n (placed_on (w.cluster.judge c.past (arrival n k c) (Some p))) one in
    record { arrival = said w.cluster.judge c.past (arrival n k c) (Some p); node = n; marks = _; event = refl; later = calm.news; is = calm.is; quiet = calm.quiet }

route_arrives : (w : World) (k : ℕ) (p : Packet) (o : Option ℕ) (c : Trace) → ((route w k p o c).past ≡ c.past) ⊎ Arrived k c.past (route w k p o c).past
unfolding route
route_arrives w k p None c = inl refl
route_arrives w k p (Some n) c = inr (arrive_arrives w n k p c)

-- a packet that is delivered arrives first, if at all
pub deliver_arrives : (w : World) (k : ℕ) (p : Packet) (c : Trace) → ((deliver w k p c).past ≡ c.past) ⊎ Arrived k c.past (deliver w k p c).past
unfolding deliver
deliver_arrives w k p c = route_arrives w k p (w.choice c.live (flow_of p) c.nth) (record c { nth = c.nth + 1 })

times_calm : (w : World) (n u m : ℕ) (c : Trace) → Calm c.past (serve_times w n u m c).past
unfolding serve_times
times_calm w n u zero c = calm_none c.past
times_calm w n u (suc m) c = calm_both c.past (serve w n u c).past _ (serve_calm w n u c) (times_calm w n u m (serve w n u c))

drain_calm : (w : World) (n u m : ℕ) (c : Trace) → Calm c.past (drain_from w n u m c).past
unfolding drain_from
drain_calm w n u zero c = calm_none c.past
drain_calm w n u (suc m) c = calm_both c.past (serve_times w n u (waiting_on w.cluster n u c.past) c).past _ (times_calm w n u (waiting_on w.cluster n u c.past) c) (drain_calm w n (u + 1) m (serve_times w n u (waiting_on w.cluster n u c.past) c))

-- a step that names no record brings no arrival
pub apart_calm : (w : World) (s : ScenarioStep) (c : Trace) → names_records s ≡ false → Calm c.past (after w s c).past
unfolding after
apart_calm w (steps.Install m v) c h = record { news = said w.cluster.judge c.past (Install m v) None ∷ []; is = refl; quiet = (refl, tt) }
apart_calm w (steps.Live ns) c h = calm_none c.past
apart_calm w (steps.Take k) c h = let bad : true ≡ false = h in cc
apart_calm w (steps.Lose k) c h = let bad : true ≡ false = h in cc
apart_calm w (steps.Again k) c h = let bad : true ≡ false = h in cc
apart_calm w (steps.Full m ms) c h = calm_none c.past
apart_calm w (steps.Hold m) c h = calm_none c.past
apart_calm w (steps.Drain m) c h = drain_calm w m 0 w.cluster.workers (release m c)
apart_calm w (steps.Restart m) c h = record { news = said w.cluster.judge c.past (Restart m) None ∷ []; is = refl; quiet = (refl, tt) }
apart_calm w (steps.Stop m) c h = record { news = said w.cluster.judge c.past (Restart m) None ∷ []; is = refl; quiet = (refl, tt) }
