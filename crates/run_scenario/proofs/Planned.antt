-- What steps say over the first records of a capture, where they read no more than those.
use Rattle.std.proofs.Common.{◌≡◌, ◌≤◌, ℕ, zero, suc, ◌+◌, Bool, true, false, List, [], ◌∷◌, length, take, drop, Option, Some, None, refl, ap, ◌∙◌, arith}
use Rattle.std.specs.Prelude.{if◌then◌else◌, slice_get}
use Rattle.std.proofs.lemmas.List.{take-take}
use Rattle.cluster_node.specs.Records.{placed_on}
use Rattle.cluster_node.specs.declared.packets.Packet.{Packet}
use Rattle.cluster_core.specs.Cluster.{Cluster, flow_of, waiting_on}
use Rattle.spreader.specs.Choices.{Choice}
use Rattle.event_trace.specs.declared.steps.ScenarioStep.{ScenarioStep}
use Rattle.event_trace.specs.declared.steps.ScenarioStep.TheVariants as steps
use Rattle.event_trace.specs.Trace.{Trace}
use Rattle.event_trace.specs.Steps.{World, world_of, is_held, say, serve, follow, arrival, arrive, route, deliver, take_all, repeat, serve_times, drain_from, release, next_ones, after, run}
use Rattle.event_trace.proofs.Moves.{deliver_hands, serve_keeps}
use Rattle.timed_steps.specs.Timed.{reads}

-- how many records steps read, where they are there
abbrev pub reads_all : List ScenarioStep → ℕ
reads_all [] = 0
reads_all (s ∷ ss) = reads s + reads_all ss

-- the next few after some, of the first ones
window : {X : Type 0} (b r k : ℕ) (xs : List X) → r + k ≤ b → take k (drop r (take b xs)) ≡ take k (drop r xs)
window b zero k xs h = take-take k b xs (omega (arith, h))
window zero (suc r) k xs h = absurd (omega (arith, h))
window (suc b) (suc r) k [] h = refl
window (suc b) (suc r) k (x ∷ xs) h = window b r k xs (omega (arith, h))

-- two worlds that differ in their records
module _ (cluster : Cluster) (choice : Choice) (few all : List Packet) where
  abbrev Few : World
  Few = world_of cluster choice few

  abbrev All : World
  All = world_of cluster choice all

  held_same : (n u : ℕ) (c : Trace) (b : Bool) → (if b then c else serve Few n u c) ≡ (if b then c else serve All n u c)
  unfolding serve
  held_same n u c true = refl
  held_same n u c false = refl

  serve_same : (n u : ℕ) (c : Trace) → serve Few n u c ≡ serve All n u c
  unfolding serve
  serve_same n u c = refl

  follow_same : (n : ℕ) (o : Option ℕ) (c : Trace) → follow Few n o c ≡ follow All n o c
  unfolding follow
  follow_same n None c = refl
  follow_same n (Some u) c = held_same n u c (is_held n c)

  arrive_same : (n k : ℕ) (p : Packet) (c : Trace) → arrive Few n k p c ≡ arrive All n k p c
  unfolding arrive
  arrive_same n k p c = follow_same n (placed_on (cluster.judge c.past (arrival n k c) (Some p))) (say All (arrival n k c) (Some p) c)

  route_same : (k : ℕ) (p : Packet) (o : Option ℕ) (c : Trace) → route Few k p o c ≡ route All k p o c
  unfolding route
  route_same k p None c = refl
  route_same k p (Some n) c = arrive_same n k p c

  deliver_same : (k : ℕ) (p : Packet) (c : Trace) → deliver Few k p c ≡ deliver All k p c
  unfolding deliver
  deliver_same k p c = route_same k p (choice c.live (flow_of p) c.nth) (record c { nth = c.nth + 1 })

  take_same : (ps : List Packet) (c : Trace) → take_all Few ps c ≡ take_all All ps c
  unfolding take_all
  take_same [] c = refl
  take_same (p ∷ ps) c =
      let next : Trace = record c { read = c.read + 1 } in
      take_same ps (deliver Few c.read p next) ∙ ap (λ (d : Trace). take_all All ps d) (deliver_same c.read p next)

  repeat_same : (k : ℕ) (o : Option Packet) (c : Trace) → repeat Few k o c ≡ repeat All k o c
  unfolding repeat
  repeat_same k None c = refl
  repeat_same k (Some p) c = deliver_same k p c

  times_same : (n u m : ℕ) (c : Trace) → serve_times Few n u m c ≡ serve_times All n u m c
  unfolding serve_times
  times_same n u zero c = refl
  times_same n u (suc m) c = times_same n u m (serve Few n u c) ∙ ap (λ (d : Trace). serve_times All n u m d) (serve_same n u c)

  drain_same : (n u m : ℕ) (c : Trace) → drain_from Few n u m c ≡ drain_from All n u m c
  unfolding drain_from
  drain_same n u zero c = refl
  drain_same n u (suc m) c =
      let many : ℕ = waiting_on cluster n u c.past in
      drain_same n (u + 1) m (serve_times Few n u many c) ∙ ap (λ (d : Trace). drain_from All n (u + 1) m d) (times_same n u many c)

  -- a step that finds the same records says the same
  after_same : (s : ScenarioStep) (c : Trace) → next_ones Few (reads s) c ≡ next_ones All (reads s) c → take c.read few ≡ take c.read all → after Few s c ≡ after All s c
  unfolding after
  after_same (steps.Install n v) c next seen = refl
  after_same (steps.Live ns) c next seen = refl
  after_same (steps.Take k) c next seen = take_same (next_ones Few k c) c ∙ ap (λ (ps : List Packet). take_all All ps c) next
  after_same (steps.Lose k) c next seen = ap (λ (ps : List Packet). record c { read = c.read + length ps; lost = c.lost + length ps }) next
  after_same (steps.Again k) c next seen = repeat_same k (slice_get (take c.read few) k) c ∙ ap (λ (ps : List Packet). repeat All k (slice_get ps k) c) seen
  after_same (steps.Full n m) c next seen = refl
  after_same (steps.Hold n) c next seen = refl
  after_same (steps.Drain n) c next seen = drain_same n 0 cluster.workers (release n c)
  after_same (steps.Restart n) c next seen = refl
  after_same (steps.Stop n) c next seen = refl

module _ (w : World) where
  taken_read : (ps : List Packet) (c : Trace) → (take_all w ps c).read ≡ c.read + length ps
  unfolding take_all
  taken_read [] c = omega arith
  taken_read (p ∷ ps) c =
      let next : Trace = record c { read = c.read + 1 } in
      let rest : (take_all w ps (deliver w c.read p next)).read ≡ (deliver w c.read p next).read + length ps = taken_read ps (deliver w c.read p next) in
      let one : (deliver w c.read p next).read ≡ c.read + 1 = (deliver_hands w c.read p next).read in
      omega (arith, rest, one)

  times_read : (n u m : ℕ) (c : Trace) → (serve_times w n u m c).read ≡ c.read
  unfolding serve_times
  times_read n u zero c = refl
  times_read n u (suc m) c = times_read n u m (serve w n u c) ∙ (serve_keeps w n u c).read

  drain_read : (n u m : ℕ) (c : Trace) → (drain_from w n u m c).read ≡ c.read
  unfolding drain_from
  drain_read n u zero c = refl
  drain_read n u (suc m) c = drain_read n (u + 1) m _ ∙ times_read n u (waiting_on w.cluster n u c.past) c

  repeat_read : (k : ℕ) (o : Option Packet) (c : Trace) → (repeat w k o c).read ≡ c.read
  unfolding repeat
  repeat_read k None c = refl
  repeat_read k (Some p) c = (deliver_hands w k p c).read

  short : (k : ℕ) (ps : List Packet) → length (take k ps) ≤ k
  short zero ps = omega arith
  short (suc k) [] = omega arith
  short (suc k) (p ∷ ps) = omega (arith, short k ps)

  -- a step reads no more than it may
  after_read : (s : ScenarioStep) (c : Trace) → (after w s c).read ≤ c.read + reads s
  unfolding after
  after_read (steps.Install n v) c = omega arith
  after_read (steps.Live ns) c = omega arith
  after_read (steps.Take k) c = omega (arith, taken_read (next_ones w k c) c, short k (drop c.read w.packets))
  after_read (steps.Lose k) c = omega (arith, short k (drop c.read w.packets))
  after_read (steps.Again k) c = omega (arith, repeat_read k (slice_get (take c.read w.packets) k) c)
  after_read (steps.Full n m) c = omega arith
  after_read (steps.Hold n) c = omega arith
  after_read (steps.Drain n) c = omega (arith, drain_read n 0 w.cluster.workers (release n c))
  after_read (steps.Restart n) c = omega arith
  after_read (steps.Stop n) c = omega arith

-- steps that read no more than the first records say over them what they say over all
pub run_first : (cluster : Cluster) (choice : Choice) (b : ℕ) (all : List Packet) (ss : List ScenarioStep) (c : Trace) → c.read + reads_all ss ≤ b
    → run (world_of cluster choice (take b all)) ss c ≡ run (world_of cluster choice all) ss c
unfolding run
run_first cluster choice b all [] c h = refl
run_first cluster choice b all (s ∷ ss) c h =
    let few : World = world_of cluster choice (take b all) in
    let whole : World = world_of cluster choice all in
    let step : after few s c ≡ after whole s c = after_same cluster choice (take b all) all s c (window b c.read (reads s) all (omega (arith, h))) (take-take c.read b all (omega (arith, h))) in
    ap (λ (d : Trace). run few ss d) step
    ∙ run_first cluster choice b all ss (after whole s c) (omega (arith, h, after_read whole s c))
