-- Whichever cluster plays the steps, the drivers are told the same.
use Rattle.std.proofs.Common.{◌≡◌, ℕ, zero, suc, ◌+◌, Bool, true, false, List, [], ◌∷◌, ◌++◌, map, length, take, Option, Some, None, refl, sym, ap, ◌∙◌, subst}
use Rattle.std.specs.Prelude.{◌==◌, if◌then◌else◌, reverse, filter, slice_get, slice_set}
use Rattle.std.proofs.lemmas.List.{append-nil, map-append, reverse-append}
use Rattle.std.proofs.lemmas.Simd.{map-map}
use Rattle.cluster_node.specs.declared.packets.Packet.{Packet}
use Rattle.cluster_node.specs.declared.events.Event.{Event}
use Rattle.cluster_node.specs.declared.events.Event.TheVariants.{Install, Restart}
use Rattle.cluster_node.specs.declared.events.LogEntry.{LogEntry}
use Rattle.cluster_node.specs.Records.{node_of, placed_on}
use Rattle.thread_records.specs.declared.command.Command.{Command}
use Rattle.thread_records.specs.Losses.{as_written}
use Rattle.spreader.specs.Choices.{Choice}
use Rattle.event_trace.specs.declared.steps.ScenarioStep.{ScenarioStep}
use Rattle.event_trace.specs.declared.steps.ScenarioStep.TheVariants as steps
use Rattle.cluster_core.specs.Cluster.{Cluster, flow_of, waiting_on}
use Rattle.event_trace.specs.Trace.{Trace}
use Rattle.event_trace.specs.Steps.{World, world_of, is_held, say, serve, follow, arrival, arrive, route, deliver, take_all, repeat, serve_times, drain_from, release, next_ones, after, run, start, below}
use Rattle.event_trace.specs.Tally.{tally_of}
use Rattle.event_trace.specs.declared.play.Tally.{Tally}
use Rattle.driver_commands.specs.Noting.{noting}
use Rattle.driver_commands.specs.Orders.{commands_on, events_of, trace_on, orders_in, plan_of, ends_on, orders_on, orders_of}
use Rattle.driver_commands.proofs.Telling.{commands_more, no_serve}
use Rattle.driver_commands.proofs.Ending.{ended_written, told_written}

-- what a node's driver is told of a record, which has the newest event in front
abbrev pub told_to : ℕ → List LogEntry → List Command
told_to n past = commands_on n (map (λ s. s.event) (reverse past))

pub told_more : (n : ℕ) (s : LogEntry) (past : List LogEntry) → told_to n (s ∷ past) ≡ told_to n past ++ commands_on n (s.event ∷ [])
told_more n s past =
    ap (λ (l : List LogEntry). commands_on n (map (λ x. x.event) l)) (reverse-append (s ∷ []) past)
    ∙ ap (commands_on n) (map-append (λ (x : LogEntry). x.event) (reverse past) (s ∷ []))
    ∙ commands_more n (map (λ x. x.event) (reverse past)) (s.event ∷ [])

-- a trace but for its events
abbrev forget : Trace → Trace
forget c = record c { past = [] }

-- two traces agree in all but their servings and what came of the events
pub record Alike (c d : Trace) : Type 0 where
  pub rest : forget c ≡ forget d
  pub told : (n : ℕ) → told_to n c.past ≡ told_to n d.past

alike_same : (c : Trace) → Alike c c
alike_same c = record { rest = refl; told = λ n. refl }

alike_back : (c d : Trace) → Alike c d → Alike d c
alike_back c d h = record { rest = sym h.rest; told = λ n. sym (h.told n) }

alike_both : (c d e : Trace) → Alike c d → Alike d e → Alike c e
alike_both c d e h k = record { rest = h.rest ∙ k.rest; told = λ n. h.told n ∙ k.told n }

serve_alike : (w : World) (n u : ℕ) (c : Trace) → Alike c (serve w n u c)
unfolding serve
serve_alike w n u c = record {
  rest = refl;
  told = λ k. sym (told_more k _ c.past ∙ ap (λ (l : List Command). told_to k c.past ++ l) (no_serve k n u _ false) ∙ append-nil (told_to k c.past));
}

held_alike : (w : World) (n u : ℕ) (c : Trace) (b : Bool) → Alike c (if b then c else serve w n u c)
held_alike w n u c true = alike_same c
held_alike w n u c false = serve_alike w n u c

follow_alike : (w : World) (n : ℕ) (o : Option ℕ) (c : Trace) → Alike c (follow w n o c)
unfolding follow
follow_alike w n None c = alike_same c
follow_alike w n (Some u) c = held_alike w n u c (is_held n c)

times_alike : (w : World) (n u m : ℕ) (c : Trace) → Alike c (serve_times w n u m c)
unfolding serve_times
times_alike w n u zero c = alike_same c
times_alike w n u (suc m) c = alike_both c (serve w n u c) (serve_times w n u m (serve w n u c)) (serve_alike w n u c) (times_alike w n u m (serve w n u c))

drain_alike : (w : World) (n u m : ℕ) (c : Trace) → Alike c (drain_from w n u m c)
unfolding drain_from
drain_alike w n u zero c = alike_same c
drain_alike w n u (suc m) c =
    let d : Trace = serve_times w n u (waiting_on w.cluster n u c.past) c in
    alike_both c d (drain_from w n (u + 1) m d) (times_alike w n u (waiting_on w.cluster n u c.past) c) (drain_alike w n (u + 1) m d)

say_alike : (w v : World) (e f : Event) (p q : Option Packet) (c d : Trace) → e ≡ f → Alike c d → Alike (say w e p c) (say v f q d)
say_alike w v e f p q c d i h = record {
  rest = h.rest;
  told = λ k. told_more k _ c.past
      ∙ ap (λ (l : List Command). l ++ commands_on k (e ∷ [])) (h.told k)
      ∙ ap (λ (x : Event). told_to k d.past ++ commands_on k (x ∷ [])) i
      ∙ sym (told_more k _ d.past);
}

arrive_alike : (w v : World) (n k : ℕ) (p : Packet) (c d : Trace) → Alike c d → Alike (arrive w n k p c) (arrive v n k p d)
unfolding arrive
arrive_alike w v n k p c d h =
    let s : Trace = say w (arrival n k c) (Some p) c in
    let t : Trace = say v (arrival n k d) (Some p) d in
    let i : Alike s t = say_alike w v (arrival n k c) (arrival n k d) (Some p) (Some p) c d (ap (λ (x : Trace). arrival n k x) h.rest) h in
    alike_both (follow w n (placed_on (w.cluster.judge c.past (arrival n k c) (Some p))) s) s (follow v n (placed_on (v.cluster.judge d.past (arrival n k d) (Some p))) t)
    (alike_back s (follow w n (placed_on (w.cluster.judge c.past (arrival n k c) (Some p))) s) (follow_alike w n (placed_on (w.cluster.judge c.past (arrival n k c) (Some p))) s))
    (alike_both s t (follow v n (placed_on (v.cluster.judge d.past (arrival n k d) (Some p))) t) i (follow_alike v n (placed_on (v.cluster.judge d.past (arrival n k d) (Some p))) t))

route_alike : (w v : World) (k : ℕ) (p : Packet) (o : Option ℕ) (c d : Trace) → Alike c d → Alike (route w k p o c) (route v k p o d)
unfolding route
route_alike w v k p None c d h = record { rest = ap (λ (x : Trace). record x { unrouted = x.unrouted + 1 }) h.rest; told = h.told }
route_alike w v k p (Some n) c d h = arrive_alike w v n k p c d h

deliver_alike : (a b : Cluster) (choice : Choice) (packets : List Packet) (k : ℕ) (p : Packet) (c d : Trace) → Alike c d → Alike (deliver (world_of a choice packets) k p c) (deliver (world_of b choice packets) k p d)
unfolding deliver
deliver_alike a b choice packets k p c d h =
    let w : World = world_of a choice packets in
    let v : World = world_of b choice packets in
    let s : Trace = record c { nth = c.nth + 1 } in
    let t : Trace = record d { nth = d.nth + 1 } in
    let i : Alike s t = record { rest = ap (λ (x : Trace). record x { nth = x.nth + 1 }) h.rest; told = h.told } in
    subst (λ (o : Option ℕ). Alike (route w k p (choice c.live (flow_of p) c.nth) s) (route v k p o t)) (ap (λ (x : Trace). choice x.live (flow_of p) x.nth) h.rest)
    (route_alike w v k p (choice c.live (flow_of p) c.nth) s t i)

take_alike : (a b : Cluster) (choice : Choice) (packets ps : List Packet) (c d : Trace) → Alike c d → Alike (take_all (world_of a choice packets) ps c) (take_all (world_of b choice packets) ps d)
unfolding take_all
take_alike a b choice packets [] c d h = h
take_alike a b choice packets (p ∷ ps) c d h =
    let w : World = world_of a choice packets in
    let v : World = world_of b choice packets in
    let s : Trace = record c { read = c.read + 1 } in
    let t : Trace = record d { read = d.read + 1 } in
    let i : Alike s t = record { rest = ap (λ (x : Trace). record x { read = x.read + 1 }) h.rest; told = h.told } in
    let j : Alike (deliver w c.read p s) (deliver v d.read p t) = subst (λ (k : ℕ). Alike (deliver w c.read p s) (deliver v k p t)) (ap (λ (x : Trace). x.read) h.rest) (deliver_alike a b choice packets c.read p s t i) in
    take_alike a b choice packets ps (deliver w c.read p s) (deliver v d.read p t) j

repeat_alike : (a b : Cluster) (choice : Choice) (packets : List Packet) (k : ℕ) (o : Option Packet) (c d : Trace) → Alike c d → Alike (repeat (world_of a choice packets) k o c) (repeat (world_of b choice packets) k o d)
unfolding repeat
repeat_alike a b choice packets k None c d h = record { rest = ap (λ (x : Trace). record x { skipped = x.skipped + 1 }) h.rest; told = h.told }
repeat_alike a b choice packets k (Some p) c d h = deliver_alike a b choice packets k p c d h

release_alike : (n : ℕ) (c d : Trace) → Alike c d → Alike (release n c) (release n d)
release_alike n c d h = record { rest = ap (release n) h.rest; told = h.told }

after_alike : (a b : Cluster) (choice : Choice) (packets : List Packet) (s : ScenarioStep) (c d : Trace) → Alike c d → Alike (after (world_of a choice packets) s c) (after (world_of b choice packets) s d)
unfolding after
after_alike a b choice packets (steps.Install n v) c d h = say_alike (world_of a choice packets) (world_of b choice packets) (Install n v) (Install n v) None None c d refl h
after_alike a b choice packets (steps.Live ns) c d h = record { rest = ap (λ (x : Trace). record x { live = ns.items }) h.rest; told = h.told }
after_alike a b choice packets (steps.Take k) c d h =
    let w : World = world_of a choice packets in
    let v : World = world_of b choice packets in
    subst (λ (ps : List Packet). Alike (take_all w (next_ones w k c) c) (take_all v ps d)) (ap (λ (x : Trace). next_ones w k x) h.rest) (take_alike a b choice packets (next_ones w k c) c d h)
after_alike a b choice packets (steps.Lose k) c d h =
    let w : World = world_of a choice packets in
    record { rest = ap (λ (x : Trace). record x { read = x.read + length (next_ones w k x); lost = x.lost + length (next_ones w k x) }) h.rest; told = h.told }
after_alike a b choice packets (steps.Again k) c d h =
    let w : World = world_of a choice packets in
    let v : World = world_of b choice packets in
    subst (λ (o : Option Packet). Alike (repeat w k (slice_get (take c.read packets) k) c) (repeat v k o d)) (ap (λ (x : Trace). slice_get (take x.read packets) k) h.rest) (repeat_alike a b choice packets k (slice_get (take c.read packets) k) c d h)
after_alike a b choice packets (steps.Full n m) c d h = record { rest = ap (λ (x : Trace). record x { marks = slice_set x.marks n m }) h.rest; told = h.told }
after_alike a b choice packets (steps.Hold n) c d h = record { rest = ap (λ (x : Trace). record x { held = slice_set x.held n true }) h.rest; told = h.told }
after_alike a b choice packets (steps.Drain n) c d h =
    let w : World = world_of a choice packets in
    let v : World = world_of b choice packets in
    alike_both (drain_from w n 0 a.workers (release n c)) (release n c) (drain_from v n 0 b.workers (release n d))
    (alike_back (release n c) (drain_from w n 0 a.workers (release n c)) (drain_alike w n 0 a.workers (release n c)))
    (alike_both (release n c) (release n d) (drain_from v n 0 b.workers (release n d)) (release_alike n c d h) (drain_alike v n 0 b.workers (release n d)))
after_alike a b choice packets (steps.Restart n) c d h = say_alike (world_of a choice packets) (world_of b choice packets) (Restart n) (Restart n) None None (release n c) (release n d) refl (release_alike n c d h)
after_alike a b choice packets (steps.Stop n) c d h = say_alike (world_of a choice packets) (world_of b choice packets) (Restart n) (Restart n) None None (release n c) (release n d) refl (release_alike n c d h)

run_alike : (a b : Cluster) (choice : Choice) (packets : List Packet) (ss : List ScenarioStep) (c d : Trace) → Alike c d → Alike (run (world_of a choice packets) ss c) (run (world_of b choice packets) ss d)
unfolding run
run_alike a b choice packets [] c d h = h
run_alike a b choice packets (s ∷ ss) c d h =
    run_alike a b choice packets ss (after (world_of a choice packets) s c) (after (world_of b choice packets) s d) (after_alike a b choice packets s c d h)

-- the traces of steps on two clusters
pub traces_alike : (a b : Cluster) (choice : Choice) (packets : List Packet) (ss : List ScenarioStep) (nodes : ℕ) → Alike (trace_on a choice packets ss nodes) (trace_on b choice packets ss nodes)
traces_alike a b choice packets ss nodes = run_alike a b choice packets ss (start nodes) (start nodes) (alike_same (start nodes))

map_same : {X Y : Type 0} (f g : X → Y) → ((x : X) → f x ≡ g x) → (xs : List X) → map f xs ≡ map g xs
map_same {Y = Y} f g h [] = refl
map_same {Y = Y} f g h (x ∷ xs) = ap (λ (y : Y). y ∷ map f xs) (h x) ∙ ap (λ (l : List Y). g x ∷ l) (map_same f g h xs)

pub orders_alike : (nodes : ℕ) (c d : Trace) → Alike c d → orders_in nodes (events_of c) ≡ orders_in nodes (events_of d)
orders_alike nodes c d h = map_same (λ n. commands_on n (events_of c)) (λ n. commands_on n (events_of d)) h.told (below nodes)

pub tallies_alike : (packets : ℕ) (c d : Trace) → Alike c d → tally_of packets c ≡ tally_of packets d
tallies_alike packets c d h = ap (tally_of packets) h.rest

-- what a node is told, as a history has it
pub written_on : (choice : Choice) (packets : List Packet) (ss : List ScenarioStep) (nodes n : ℕ) → map as_written (orders_on choice packets ss nodes n) ≡ commands_on n (events_of (plan_of choice packets ss nodes))
written_on choice packets ss nodes n =
    ended_written (ends_on n ss) (commands_on n (events_of (plan_of choice packets ss nodes)))
    ∙ told_written (filter (λ (e : Event). node_of e == n) (events_of (plan_of choice packets ss nodes)))

-- what is made of each of the lists that a list of vectors has
pub each_of : {V B : Type 0} (items : V → List Command) (f : List Command → B) (g : ℕ → List Command) (h : ℕ → B) (vs : List V) (nodes : ℕ) → map items vs ≡ map g (below nodes) → ((n : ℕ) → f (g n) ≡ h n)
    → map (λ v. f (items v)) vs ≡ map h (below nodes)
each_of items f g h vs nodes e is =
    sym (map-map f items vs) ∙ ap (map f) e ∙ map-map f g (below nodes) ∙ map_same (λ n. f (g n)) h is (below nodes)

-- what is read off the plan is read off the steps' trace on any cluster
pub told_anywhere : {V : Type 0} (items : V → List Command) (choice : Choice) (packets : List Packet) (ss : List ScenarioStep) (nodes : ℕ) (vs : List V) (tally : Tally) (cluster : Cluster) → map items vs ≡ orders_of choice packets ss nodes → tally ≡ tally_of (length packets) (plan_of choice packets ss nodes)
    → (map (λ v. map as_written (items v)) vs ≡ orders_in nodes (events_of (trace_on cluster choice packets ss nodes))) × (tally ≡ tally_of (length packets) (trace_on cluster choice packets ss nodes))
told_anywhere items choice packets ss nodes vs tally cluster e f =
    let h : Alike (trace_on noting choice packets ss nodes) (trace_on cluster choice packets ss nodes) = traces_alike noting cluster choice packets ss nodes in (
      each_of items (map as_written) (orders_on choice packets ss nodes) (λ n. commands_on n (events_of (plan_of choice packets ss nodes))) vs nodes e (written_on choice packets ss nodes)
          ∙ orders_alike nodes (trace_on noting choice packets ss nodes) (trace_on cluster choice packets ss nodes) h,
      f ∙ tallies_alike (length packets) (trace_on noting choice packets ss nodes) (trace_on cluster choice packets ss nodes) h,
    )
