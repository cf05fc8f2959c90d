-- Each outcome of a run is the judge's.
use Rattle.std.proofs.Common.{ℕ, zero, suc, ◌+◌, Bool, true, false, List, [], ◌∷◌, take, Option, Some, None, refl}
use Rattle.std.specs.Prelude.{if◌then◌else◌, slice_get}
use Rattle.cluster_node.specs.declared.packets.Packet.{Packet}
use Rattle.cluster_node.specs.Records.{Judged, placed_on}
use Rattle.cluster_core.specs.Cluster.{flow_of, waiting_on}
use Rattle.event_trace.specs.declared.steps.ScenarioStep.{ScenarioStep}
use Rattle.event_trace.specs.declared.steps.ScenarioStep.TheVariants as steps
use Rattle.event_trace.specs.Trace.{Trace}
use Rattle.event_trace.specs.Steps.{World, is_held, say, serve, follow, arrival, arrive, route, deliver, take_all, repeat, serve_times, drain_from, release, next_ones, after, run}

abbrev IsJudged : World → Trace → Type 0
IsJudged w c = Judged w.cluster.judge c.past

pub serve_told : (w : World) (n u : ℕ) (c : Trace) → IsJudged w c → IsJudged w (serve w n u c)
unfolding serve
serve_told w n u c h = (refl, h)

held_told : (w : World) (n u : ℕ) (c : Trace) (b : Bool) → IsJudged w c → IsJudged w (if b then c else serve w n u c)
held_told w n u c true h = h
held_told w n u c false h = serve_told w n u c h

follow_told : (w : World) (n : ℕ) (o : Option ℕ) (c : Trace) → IsJudged w c → IsJudged w (follow w n o c)
unfolding follow
follow_told w n None c h = h
follow_told w n (Some u) c h = held_told w n u c (is_held n c) h

arrive_told : (w : World) (n k : ℕ) (p : Packet) (c : Trace) → IsJudged w c → IsJudged w (arrive w n k p c)
unfolding arrive
arrive_told w n k p c h = follow_told w n (placed_on (w.cluster.judge c.past (arrival n k c) (Some p))) (say w (arrival n k c) (Some p) c) (refl, h)

route_told : (w : World) (k : ℕ) (p : Packet) (o : Option ℕ) (c : Trace) → IsJudged w c → IsJudged w (route w k p o c)
unfolding route
route_told w k p None c h = h
route_told w k p (Some n) c h = arrive_told w n k p c h

pub deliver_told : (w : World) (k : ℕ) (p : Packet) (c : Trace) → IsJudged w c → IsJudged w (deliver w k p c)
unfolding deliver
deliver_told w k p c h = route_told w k p (w.choice c.live (flow_of p) c.nth) (record c { nth = c.nth + 1 }) h

take_told : (w : World) (ps : List Packet) (c : Trace) → IsJudged w c → IsJudged w (take_all w ps c)
unfolding take_all
take_told w [] c h = h
take_told w (p ∷ ps) c h = take_told w ps (deliver w c.read p (record c { read = c.read + 1 })) (deliver_told w c.read p (record c { read = c.read + 1 }) h)

repeat_told : (w : World) (k : ℕ) (o : Option Packet) (c : Trace) → IsJudged w c → IsJudged w (repeat w k o c)
unfolding repeat
repeat_told w k None c h = h
repeat_told w k (Some p) c h = deliver_told w k p c h

times_told : (w : World) (n u m : ℕ) (c : Trace) → IsJudged w c → IsJudged w (serve_times w n u m c)
unfolding serve_times
times_told w n u zero c h = h
times_told w n u (suc m) c h = times_told w n u m (serve w n u c) (serve_told w n u c h)

drain_told : (w : World) (n u m : ℕ) (c : Trace) → IsJudged w c → IsJudged w (drain_from w n u m c)
unfolding drain_from
drain_told w n u zero c h = h
drain_told w n u (suc m) c h = drain_told w n (u + 1) m (serve_times w n u (waiting_on w.cluster n u c.past) c) (times_told w n u (waiting_on w.cluster n u c.past) c h)

pub after_told : (w : World) (s : ScenarioStep) (c : Trace) → IsJudged w c → IsJudged w (after w s c)
unfolding after
after_told w (steps.Install m v) c h = (refl, h)
after_told w (steps.Live ns) c h = h
after_told w (steps.Take k) c h = take_told w (next_ones w k c) c h
after_told w (steps.Lose k) c h = h
after_told w (steps.Again k) c h = repeat_told w k (slice_get (take c.read w.packets) k) c h
after_told w (steps.Full m ms) c h = h
after_told w (steps.Hold m) c h = h
after_told w (steps.Drain m) c h = drain_told w m 0 w.cluster.workers (release m c) h
after_told w (steps.Restart m) c h = (refl, h)
after_told w (steps.Stop m) c h = (refl, h)

pub run_told : (w : World) (ss : List ScenarioStep) (c : Trace) → IsJudged w c → IsJudged w (run w ss c)
unfolding run
run_told w [] c h = h
run_told w (s ∷ ss) c h = run_told w ss (after w s c) (after_told w s c h)
