-- A trace ends as many lives of a node as its steps.
use Rattle.cluster_node.specs.Records.{said, placed_on}
use Rattle.std.proofs.Common.{◌≡◌, ℕ, zero, suc, ◌+◌, Bool, true, false, List, [], ◌∷◌, ◌++◌, map, length, take, Option, Some, None, refl, ap, ◌∙◌, arith}
use Rattle.std.specs.Prelude.{◌==◌, if◌then◌else◌, cond, slice_get}
use Rattle.std.specs.List.{cons_option}
use Rattle.std.proofs.lemmas.List.{length-append}
use Rattle.cluster_node.specs.declared.packets.Packet.{Packet}
use Rattle.cluster_node.specs.declared.events.Event.{Event}
use Rattle.cluster_node.specs.declared.events.Event.TheVariants.{Install, Arrive, Serve, Restart}
use Rattle.cluster_node.specs.declared.events.LogEntry.{LogEntry}
use Rattle.thread_records.specs.declared.command.Command.{Command}
use Rattle.thread_records.specs.declared.command.Command.TheVariants.{Publish, Offer}
use Rattle.thread_records.specs.declared.command.Command.TheVariants as commands
use Rattle.thread_records.specs.Histories.{commands_of}
use Rattle.thread_records.specs.Losses.{drained_lives}
use Rattle.event_trace.specs.declared.steps.ScenarioStep.{ScenarioStep}
use Rattle.event_trace.specs.declared.steps.ScenarioStep.TheVariants as steps
use Rattle.spreader.specs.Choices.{Choice}
use Rattle.cluster_core.specs.Cluster.{Cluster, newest_on, flow_of, waiting_on}
use Rattle.event_trace.specs.Trace.{Trace}
use Rattle.event_trace.specs.Steps.{World, world_of, is_held, say, serve, follow, arrival, arrive, route, deliver, take_all, repeat, serve_times, drain_from, release, next_ones, after, run, start, below}
use Rattle.driver_commands.specs.Orders.{commands_on, events_of, trace_on, plan_of, ends_by, ends_on, orders_on, orders_of, EndsAreTold}
use Rattle.driver_commands.specs.Noting.{noting}
use Rattle.driver_commands.proofs.Telling.{no_serve}
use Rattle.driver_commands.proofs.Alike.{told_to, told_more, each_of}
use Rattle.driver_commands.proofs.Ending.{ended_ends}

drained_append : (cs ds : List Command) → drained_lives (cs ++ ds) ≡ drained_lives cs ++ drained_lives ds
drained_append [] ds = refl
drained_append (Publish v ∷ cs) ds = drained_append cs ds
drained_append (Offer k ∷ cs) ds = drained_append cs ds
drained_append (commands.Restart ∷ cs) ds = ap (λ (l : List Bool). true ∷ l) (drained_append cs ds)
drained_append (commands.Stop ∷ cs) ds = ap (λ (l : List Bool). false ∷ l) (drained_append cs ds)

-- how many lives of a node a record ends
abbrev lives : ℕ → List LogEntry → ℕ
lives n past = length (drained_lives (told_to n past))

-- how many an event ends
abbrev ends_in : ℕ → Event → ℕ
ends_in n e = length (drained_lives (commands_on n (e ∷ [])))

lives_more : (n : ℕ) (s : LogEntry) (past : List LogEntry) → lives n (s ∷ past) ≡ lives n past + ends_in n s.event
lives_more n s past =
    ap (λ (cs : List Command). length (drained_lives cs)) (told_more n s past)
    ∙ ap (λ (ds : List Bool). length ds) (drained_append (told_to n past) (commands_on n (s.event ∷ [])))
    ∙ length-append (drained_lives (told_to n past)) (drained_lives (commands_on n (s.event ∷ [])))

say_lives : (n : ℕ) (w : World) (e : Event) (p : Option Packet) (c : Trace) → ends_in n e ≡ 0 → lives n (say w e p c).past ≡ lives n c.past
say_lives n w e p c h =
    let more : lives n (say w e p c).past ≡ lives n c.past + ends_in n e = lives_more n (said w.cluster.judge c.past e p) c.past in
    omega (arith, more, h)

install_ends : (n m v : ℕ) → ends_in n (Install m v) ≡ 0
install_ends n m v = go (m == n)
  where
    go : (b : Bool) → length (drained_lives (commands_of (cond b (Install m v ∷ []) []))) ≡ 0
    go true = refl
    go false = refl

arrive_ends : (n m k : ℕ) (marks : List Bool) → ends_in n (Arrive m k marks) ≡ 0
arrive_ends n m k marks = go (m == n)
  where
    go : (b : Bool) → length (drained_lives (commands_of (cond b (Arrive m k marks ∷ []) []))) ≡ 0
    go true = refl
    go false = refl

restart_ends : (n m : ℕ) (d : Bool) → ends_in n (Restart m) ≡ length (cons_option (if m == n then Some d else None) [])
restart_ends n m d = go (m == n)
  where
    go : (b : Bool) → length (drained_lives (commands_of (cond b (Restart m ∷ []) []))) ≡ length (cons_option (if b then Some d else None) [])
    go true = refl
    go false = refl

serve_lives : (n : ℕ) (w : World) (m u : ℕ) (c : Trace) → lives n (serve w m u c).past ≡ lives n c.past
unfolding serve
serve_lives n w m u c =
    say_lives n w (Serve m u (newest_on w.cluster m c.past) false) None c (ap (λ (cs : List Command). length (drained_lives cs)) (no_serve n m u (newest_on w.cluster m c.past) false))

held_lives : (n : ℕ) (w : World) (m u : ℕ) (c : Trace) (b : Bool) → lives n (if b then c else serve w m u c).past ≡ lives n c.past
held_lives n w m u c true = refl
held_lives n w m u c false = serve_lives n w m u c

follow_lives : (n : ℕ) (w : World) (m : ℕ) (o : Option ℕ) (c : Trace) → lives n (follow w m o c).past ≡ lives n c.past
unfolding follow
follow_lives n w m None c = refl
follow_lives n w m (Some u) c = held_lives n w m u c (is_held m c)

times_lives : (n : ℕ) (w : World) (m u k : ℕ) (c : Trace) → lives n (serve_times w m u k c).past ≡ lives n c.past
unfolding serve_times
times_lives n w m u zero c = refl
times_lives n w m u (suc k) c = times_lives n w m u k (serve w m u c) ∙ serve_lives n w m u c

drain_lives : (n : ℕ) (w : World) (m u k : ℕ) (c : Trace) → lives n (drain_from w m u k c).past ≡ lives n c.past
unfolding drain_from
drain_lives n w m u zero c = refl
drain_lives n w m u (suc k) c =
    drain_lives n w m (u + 1) k (serve_times w m u (waiting_on w.cluster m u c.past) c) ∙ times_lives n w m u (waiting_on w.cluster m u c.past) c

arrive_lives : (n : ℕ) (w : World) (m k : ℕ) (p : Packet) (c : Trace) → lives n (arrive w m k p c).past ≡ lives n c.past
unfolding arrive
arrive_lives n w m k p c =
    follow_lives n w m (placed_on (w.cluster.judge c.past (arrival m k c) (Some p))) (say w (arrival m k c) (Some p) c)
    ∙ say_lives n w (arrival m k c) (Some p) c (arrive_ends n m k _)

route_lives : (n : ℕ) (w : World) (k : ℕ) (p : Packet) (o : Option ℕ) (c : Trace) → lives n (route w k p o c).past ≡ lives n c.past
unfolding route
route_lives n w k p None c = refl
route_lives n w k p (Some m) c = arrive_lives n w m k p c

deliver_lives : (n : ℕ) (w : World) (k : ℕ) (p : Packet) (c : Trace) → lives n (deliver w k p c).past ≡ lives n c.past
unfolding deliver
deliver_lives n w k p c = route_lives n w k p (w.choice c.live (flow_of p) c.nth) (record c { nth = c.nth + 1 })

take_lives : (n : ℕ) (w : World) (ps : List Packet) (c : Trace) → lives n (take_all w ps c).past ≡ lives n c.past
unfolding take_all
take_lives n w [] c = refl
take_lives n w (p ∷ ps) c =
    take_lives n w ps (deliver w c.read p (record c { read = c.read + 1 })) ∙ deliver_lives n w c.read p (record c { read = c.read + 1 })

repeat_lives : (n : ℕ) (w : World) (k : ℕ) (o : Option Packet) (c : Trace) → lives n (repeat w k o c).past ≡ lives n c.past
unfolding repeat
repeat_lives n w k None c = refl
repeat_lives n w k (Some p) c = deliver_lives n w k p c

-- how many lives of a node a step ends
abbrev ends_at : ℕ → ScenarioStep → ℕ
ends_at n s = length (cons_option (ends_by n s) [])

none_more : (n m : ℕ) → n ≡ m → n ≡ m + 0
none_more n m h = omega (arith, h)

after_lives : (n : ℕ) (w : World) (s : ScenarioStep) (c : Trace) → lives n (after w s c).past ≡ lives n c.past + ends_at n s
unfolding after
after_lives n w (steps.Install m v) c = none_more _ _ (say_lives n w (Install m v) None c (install_ends n m v))
after_lives n w (steps.Live ns) c = none_more _ _ refl
after_lives n w (steps.Take k) c = none_more _ _ (take_lives n w (next_ones w k c) c)
after_lives n w (steps.Lose k) c = none_more _ _ refl
after_lives n w (steps.Again k) c = none_more _ _ (repeat_lives n w k (slice_get (take c.read w.packets) k) c)
after_lives n w (steps.Full m marks) c = none_more _ _ refl
after_lives n w (steps.Hold m) c = none_more _ _ refl
after_lives n w (steps.Drain m) c = none_more _ _ (drain_lives n w m 0 w.cluster.workers (release m c))
after_lives n w (steps.Restart m) c =
    lives_more n (said w.cluster.judge c.past (Restart m) None) c.past ∙ ap (λ (k : ℕ). lives n c.past + k) (restart_ends n m true)
after_lives n w (steps.Stop m) c =
    lives_more n (said w.cluster.judge c.past (Restart m) None) c.past ∙ ap (λ (k : ℕ). lives n c.past + k) (restart_ends n m false)

cons_length : (o : Option Bool) (ds : List Bool) → length (cons_option o ds) ≡ length (cons_option o []) + length ds
cons_length None ds = omega arith
cons_length (Some d) ds = omega arith

run_lives : (n : ℕ) (w : World) (ss : List ScenarioStep) (c : Trace) → lives n (run w ss c).past ≡ lives n c.past + length (ends_on n ss)
unfolding run
run_lives n w [] c = none_more _ _ refl
run_lives n w (s ∷ ss) c =
    let rest : lives n (run w ss (after w s c)).past ≡ lives n (after w s c).past + length (ends_on n ss) = run_lives n w ss (after w s c) in
    let one : lives n (after w s c).past ≡ lives n c.past + ends_at n s = after_lives n w s c in
    let long : length (ends_on n (s ∷ ss)) ≡ ends_at n s + length (ends_on n ss) = cons_length (ends_by n s) (ends_on n ss) in
    omega (arith, rest, one, long)

-- in a trace a node begins as many new lives as the steps end
pub ends_count : (cluster : Cluster) (choice : Choice) (packets : List Packet) (ss : List ScenarioStep) (nodes n : ℕ)
    → length (drained_lives (commands_on n (events_of (trace_on cluster choice packets ss nodes)))) ≡ length (ends_on n ss)
ends_count cluster choice packets ss nodes n =
    let all : lives n (run (world_of cluster choice packets) ss (start nodes)).past ≡ lives n (start nodes).past + length (ends_on n ss) = run_lives n (world_of cluster choice packets) ss (start nodes) in
    all ∙ none_before (length (ends_on n ss))
  where
    none_before : (m : ℕ) → 0 + m ≡ m
    none_before m = omega arith

-- the commands end the lives that the steps end, each as its step does
pub ends_are_told : EndsAreTold
ends_are_told choice packets ss nodes n = ended_ends (ends_on n ss) (commands_on n (events_of (plan_of choice packets ss nodes))) (ends_count noting choice packets ss nodes n)

pub all_ends_told : {V : Type 0} (items : V → List Command) (choice : Choice) (packets : List Packet) (ss : List ScenarioStep) (nodes : ℕ) (vs : List V) → map items vs ≡ orders_of choice packets ss nodes
    → map (λ v. drained_lives (items v)) vs ≡ map (λ n. ends_on n ss) (below nodes)
all_ends_told items choice packets ss nodes vs e = each_of items drained_lives (orders_on choice packets ss nodes) (λ n. ends_on n ss) vs nodes e (ends_are_told choice packets ss nodes)
