-- The counts of a run, step by step.
use Rattle.std.proofs.Common.{◌≡◌, ℕ, zero, suc, true, false, ◌+◌, ◌<◌, ◌≤◌, ◌^◌, List, [], ◌∷◌, length, drop, take, Option, Some, None, refl, sym, ap, ◌∙◌, arith, length-drop, get_or, drop-cons, add-one}
use Rattle.std.specs.Prelude.{slice_get}
use Rattle.cluster_node.specs.declared.packets.Packet.{Packet}
use Rattle.cluster_core.specs.Cluster.{waiting_on}
use Rattle.event_trace.specs.declared.steps.ScenarioStep.{ScenarioStep}
use Rattle.event_trace.specs.declared.steps.ScenarioStep.TheVariants as steps
use Rattle.event_trace.specs.Trace.{Trace}
use Rattle.event_trace.specs.Room.{Room, Counted}
use Rattle.event_trace.specs.Steps.{World, serve, deliver, take_all, repeat, serve_times, drain_from, release, next_ones, names_records, after, run}
use Rattle.event_trace.proofs.Moves.{Keeps, keeps_same, keeps_both, serve_keeps, Handed, deliver_hands}

times_keeps : (w : World) (n u m : ℕ) (c : Trace) → Keeps c (serve_times w n u m c)
unfolding serve_times
times_keeps w n u zero c = keeps_same c
times_keeps w n u (suc m) c = keeps_both c (serve w n u c) (serve_times w n u m (serve w n u c)) (serve_keeps w n u c) (times_keeps w n u m (serve w n u c))

drain_keeps : (w : World) (n u m : ℕ) (c : Trace) → Keeps c (drain_from w n u m c)
unfolding drain_from
drain_keeps w n u zero c = keeps_same c
drain_keeps w n u (suc m) c = keeps_both c (serve_times w n u (waiting_on w.cluster n u c.past) c) _ (times_keeps w n u (waiting_on w.cluster n u c.past) c) (drain_keeps w n (u + 1) m (serve_times w n u (waiting_on w.cluster n u c.past) c))

record Took (m : ℕ) (c d : Trace) : Type 0 where
  read : d.read ≡ c.read + m
  nth : d.nth ≡ c.nth + m
  unrouted : d.unrouted ≤ c.unrouted + m
  lost : d.lost ≡ c.lost
  skipped : d.skipped ≡ c.skipped

took : (w : World) (ps : List Packet) (c : Trace) → Took (length ps) c (take_all w ps c)
unfolding take_all
took w [] c = record { read = omega arith; nth = omega arith; unrouted = omega arith; lost = refl; skipped = refl }
took w (p ∷ ps) c =
    let h : Handed (record c { read = c.read + 1 }) (deliver w c.read p (record c { read = c.read + 1 })) = deliver_hands w c.read p (record c { read = c.read + 1 }) in
    let t : Took (length ps) (deliver w c.read p (record c { read = c.read + 1 })) (take_all w ps (deliver w c.read p (record c { read = c.read + 1 }))) = took w ps (deliver w c.read p (record c { read = c.read + 1 })) in
    record { read = omega (arith, h.read, t.read); nth = omega (arith, h.nth, t.nth); unrouted = omega (arith, h.unrouted, t.unrouted); lost = t.lost ∙ h.lost; skipped = t.skipped ∙ h.skipped }

take_short : (k : ℕ) (ps : List Packet) → length (take k ps) ≤ length ps
take_short zero ps = omega arith
take_short (suc k) [] = omega arith
take_short (suc k) (p ∷ ps) = omega (arith, take_short k ps)

few_left : (k n : ℕ) (ps : List Packet) → n ≤ length ps → n + length (take k (drop n ps)) ≤ length ps
few_left k n ps h = omega (arith, length-drop n ps, take_short k (drop n ps))

kept : (records steps : ℕ) (c d : Trace) → Keeps c d → Counted records steps c → Counted records (steps + 1) d
kept records steps c d k r = record { read = omega (arith, k.read, r.read); nth = omega (arith, k.nth, k.read, r.nth); unrouted = omega (arith, k.unrouted, k.read, r.unrouted); lost = omega (arith, k.lost, k.read, r.lost); skipped = omega (arith, k.skipped, r.skipped) }

plain : (records steps : ℕ) (c d : Trace) → d.read ≡ c.read → d.nth ≡ c.nth → d.unrouted ≡ c.unrouted → d.lost ≡ c.lost → d.skipped ≡ c.skipped → Counted records steps c → Counted records (steps + 1) d
plain records steps c d e f g h i r = kept records steps c d (record { read = e; nth = f; unrouted = g; lost = h; skipped = i }) r

repeated : (w : World) (steps k : ℕ) (o : Option Packet) (c : Trace) → Counted (length w.packets) steps c → Counted (length w.packets) (steps + 1) (repeat w k o c)
unfolding repeat
repeated w steps k None c r = record { read = r.read; nth = omega (arith, r.nth); unrouted = omega (arith, r.unrouted); lost = r.lost; skipped = omega (arith, r.skipped) }
repeated w steps k (Some p) c r =
    let h : Handed c (deliver w k p c) = deliver_hands w k p c in
    record { read = omega (arith, h.read, r.read); nth = omega (arith, h.nth, h.read, r.nth); unrouted = omega (arith, h.unrouted, h.read, r.unrouted); lost = omega (arith, h.lost, h.read, r.lost); skipped = omega (arith, h.skipped, r.skipped) }

pub counted_after : (w : World) (steps : ℕ) (s : ScenarioStep) (c : Trace) → Counted (length w.packets) steps c → Counted (length w.packets) (steps + 1) (after w s c)
unfolding after
counted_after w n (steps.Install m v) c r = plain _ n c _ refl refl refl refl refl r
counted_after w n (steps.Live ns) c r = plain _ n c _ refl refl refl refl refl r
counted_after w n (steps.Take k) c r =
    let t : Took (length (next_ones w k c)) c (take_all w (next_ones w k c) c) = took w (next_ones w k c) c in
    let few : c.read + length (next_ones w k c) ≤ length w.packets = few_left k c.read w.packets r.read in
    record { read = omega (arith, t.read, few); nth = omega (arith, t.nth, t.read, r.nth); unrouted = omega (arith, t.unrouted, t.read, r.unrouted); lost = omega (arith, t.lost, t.read, r.lost); skipped = omega (arith, t.skipped, r.skipped) }
counted_after w n (steps.Lose k) c r =
    let few : c.read + length (next_ones w k c) ≤ length w.packets = few_left k c.read w.packets r.read in
    record { read = few; nth = omega (arith, r.nth); unrouted = omega (arith, r.unrouted); lost = omega (arith, r.lost); skipped = omega (arith, r.skipped) }
counted_after w n (steps.Again k) c r = repeated w n k (slice_get (take c.read w.packets) k) c r
counted_after w n (steps.Full m ms) c r = plain _ n c _ refl refl refl refl refl r
counted_after w n (steps.Hold m) c r = plain _ n c _ refl refl refl refl refl r
counted_after w n (steps.Drain m) c r =
    let k : Keeps (release m c) (drain_from w m 0 w.cluster.workers (release m c)) = drain_keeps w m 0 w.cluster.workers (release m c) in
    plain _ n c _ k.read k.nth k.unrouted k.lost k.skipped r
counted_after w n (steps.Restart m) c r = plain _ n c _ refl refl refl refl refl r
counted_after w n (steps.Stop m) c r = plain _ n c _ refl refl refl refl refl r

pub roomy : (records steps : ℕ) (c : Trace) → records < 2 ^ 32 → steps < 2 ^ 32 → Counted records steps c → Room records c
roomy records steps c h k r = record { read = r.read; nth = omega (arith, r.nth, r.read); unrouted = omega (arith, r.unrouted, r.read); lost = omega (arith, r.lost, r.read); skipped = omega (arith, r.skipped) }

pub run_none : (w : World) (c : Trace) → run w [] c ≡ c
unfolding run
run_none w c = refl

run_cons : (w : World) (s : ScenarioStep) (ss : List ScenarioStep) (c : Trace) → run w (s ∷ ss) c ≡ run w ss (after w s c)
unfolding run
run_cons w s ss c = refl

pub run_next : (w : World) (ss : List ScenarioStep) (i : ℕ) (s : ScenarioStep) (c d : Trace) → i < length ss → s ≡ get_or ss i s → d ≡ after w s c → run w (drop (i + 1) ss) d ≡ run w (drop i ss) c
run_next w ss i s c d h e f =
    let p : drop i ss ≡ get_or ss i s ∷ drop (i + 1) ss = rw (add-one, drop-cons ss i s) refl in
    ap (λ (x : Trace). run w (drop (i + 1) ss) x) f ∙ sym (run_cons w s (drop (i + 1) ss) c) ∙ ap (λ (x : ScenarioStep). run w (x ∷ drop (i + 1) ss) c) e ∙ sym (ap (λ (l : List ScenarioStep). run w l c) p)

-- a step that names no record keeps the counts
pub apart_keeps : (w : World) (s : ScenarioStep) (c : Trace) → names_records s ≡ false → Keeps c (after w s c)
unfolding after
apart_keeps w (steps.Install m v) c h = record { read = refl; nth = refl; unrouted = refl; lost = refl; skipped = refl }
apart_keeps w (steps.Live ns) c h = record { read = refl; nth = refl; unrouted = refl; lost = refl; skipped = refl }
apart_keeps w (steps.Take k) c h = let bad : true ≡ false = h in cc
apart_keeps w (steps.Lose k) c h = let bad : true ≡ false = h in cc
apart_keeps w (steps.Again k) c h = let bad : true ≡ false = h in cc
apart_keeps w (steps.Full m ms) c h = record { read = refl; nth = refl; unrouted = refl; lost = refl; skipped = refl }
apart_keeps w (steps.Hold m) c h = record { read = refl; nth = refl; unrouted = refl; lost = refl; skipped = refl }
apart_keeps w (steps.Drain m) c h =
    let k : Keeps (release m c) (drain_from w m 0 w.cluster.workers (release m c)) = drain_keeps w m 0 w.cluster.workers (release m c) in
    record { read = k.read; nth = k.nth; unrouted = k.unrouted; lost = k.lost; skipped = k.skipped }
apart_keeps w (steps.Restart m) c h = record { read = refl; nth = refl; unrouted = refl; lost = refl; skipped = refl }
apart_keeps w (steps.Stop m) c h = record { read = refl; nth = refl; unrouted = refl; lost = refl; skipped = refl }
