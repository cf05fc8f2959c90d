-- In the trace of steps that are all known no worker is marked, so that the commands tell all but the servings.
use Rattle.std.proofs.Common.{◌≡◌, ℕ, zero, suc, ◌+◌, ◌≤◌, Bool, true, false, not, List, [], ◌∷◌, ◌++◌, map, length, take, replicate, Option, Some, None, refl, sym, ap, ◌∙◌, arith}
use Rattle.std.specs.Prelude.{◌==◌, nat_lt, if◌then◌else◌, cond, filter, reverse, slice_get}
use Rattle.std.specs.List.{position_or_len}
use Rattle.std.proofs.lemmas.Bool.{eqb-true, ltb-false}
use Rattle.std.proofs.lemmas.List.{map-append, reverse-append}
use Rattle.std.proofs.lemmas.List.Elements.{filter-append}
use Rattle.cluster_node.specs.declared.packets.Packet.{Packet}
use Rattle.cluster_node.specs.declared.events.Event.{Event}
use Rattle.cluster_node.specs.declared.events.Event.TheVariants.{Install, Arrive, Serve, Restart}
use Rattle.cluster_node.specs.declared.events.LogEntry.{LogEntry}
use Rattle.cluster_node.specs.Records.{node_of, placed_on}
use Rattle.thread_records.specs.Histories.{commands_of}
use Rattle.event_trace.specs.declared.steps.ScenarioStep.{ScenarioStep}
use Rattle.event_trace.specs.declared.steps.ScenarioStep.TheVariants as steps
use Rattle.cluster_core.specs.Cluster.{flow_of}
use Rattle.event_trace.specs.Trace.{Trace}
use Rattle.event_trace.specs.Steps.{World, world_of, none_marked, marks_or, marks_at, is_held, say, serve, follow, arrival, arrive, route, deliver, take_all, repeat, next_ones, after, run, start}
use Rattle.driver_commands.specs.Knowing.{is_known, first_unsupported_of}
use Rattle.driver_commands.specs.Orders.{commands_on, events_of, plan_of, ends_on, is_serve, event_of, KnownStepsAreTold}
use Rattle.driver_commands.specs.Noting.{noting}
use Rattle.driver_commands.proofs.Alike.{told_to, told_more, traces_alike}
use Rattle.driver_commands.proofs.Ending.{ended_events}

abbrev IsUnmarked : Event → Type 0
IsUnmarked (Install n v) = Unit {0}
IsUnmarked (Arrive n k marks) = marks ≡ none_marked
IsUnmarked (Serve n w v r) = Unit {0}
IsUnmarked (Restart n) = Unit {0}

abbrev AreUnmarked : List LogEntry → Type 0
AreUnmarked [] = Unit {0}
AreUnmarked (s ∷ past) = IsUnmarked s.event × AreUnmarked past

-- no worker refuses, or was said to
pub record Clean (c : Trace) : Type 0 where
  pub none : (n : ℕ) → marks_at n c ≡ none_marked
  pub events : AreUnmarked c.past

serve_clean : (w : World) (n u : ℕ) (c : Trace) → Clean c → Clean (serve w n u c)
unfolding serve
serve_clean w n u c h = record { none = h.none; events = (tt, h.events) }

held_clean : (w : World) (n u : ℕ) (c : Trace) (b : Bool) → Clean c → Clean (if b then c else serve w n u c)
held_clean w n u c true h = h
held_clean w n u c false h = serve_clean w n u c h

follow_clean : (w : World) (n : ℕ) (o : Option ℕ) (c : Trace) → Clean c → Clean (follow w n o c)
unfolding follow
follow_clean w n None c h = h
follow_clean w n (Some u) c h = held_clean w n u c (is_held n c) h

arrive_clean : (w : World) (n k : ℕ) (p : Packet) (c : Trace) → Clean c → Clean (arrive w n k p c)
unfolding arrive
arrive_clean w n k p c h = follow_clean w n (placed_on (w.cluster.judge c.past (arrival n k c) (Some p))) (say w (arrival n k c) (Some p) c) (record { none = h.none; events = (h.none n, h.events) })

route_clean : (w : World) (k : ℕ) (p : Packet) (o : Option ℕ) (c : Trace) → Clean c → Clean (route w k p o c)
unfolding route
route_clean w k p None c h = record { none = h.none; events = h.events }
route_clean w k p (Some n) c h = arrive_clean w n k p c h

deliver_clean : (w : World) (k : ℕ) (p : Packet) (c : Trace) → Clean c → Clean (deliver w k p c)
unfolding deliver
deliver_clean w k p c h = route_clean w k p (w.choice c.live (flow_of p) c.nth) (record c { nth = c.nth + 1 }) (record { none = h.none; events = h.events })

take_clean : (w : World) (ps : List Packet) (c : Trace) → Clean c → Clean (take_all w ps c)
unfolding take_all
take_clean w [] c h = h
take_clean w (p ∷ ps) c h =
    let s : Trace = record c { read = c.read + 1 } in
    take_clean w ps (deliver w c.read p s) (deliver_clean w c.read p s (record { none = h.none; events = h.events }))

repeat_clean : (w : World) (k : ℕ) (o : Option Packet) (c : Trace) → Clean c → Clean (repeat w k o c)
unfolding repeat
repeat_clean w k None c h = record { none = h.none; events = h.events }
repeat_clean w k (Some p) c h = deliver_clean w k p c h

after_clean : (w : World) (s : ScenarioStep) (c : Trace) → is_known s ≡ true → Clean c → Clean (after w s c)
unfolding after
after_clean w (steps.Install n v) c k h = record { none = h.none; events = (tt, h.events) }
after_clean w (steps.Live ns) c k h = record { none = h.none; events = h.events }
after_clean w (steps.Take m) c k h = take_clean w (next_ones w m c) c h
after_clean w (steps.Lose m) c k h = record { none = h.none; events = h.events }
after_clean w (steps.Again m) c k h = repeat_clean w m (slice_get (take c.read w.packets) m) c h
after_clean w (steps.Full n m) c k h = let bad : false ≡ true = k in cc
after_clean w (steps.Hold n) c k h = let bad : false ≡ true = k in cc
after_clean w (steps.Drain n) c k h = let bad : false ≡ true = k in cc
after_clean w (steps.Restart n) c k h = record { none = h.none; events = (tt, h.events) }
after_clean w (steps.Stop n) c k h = record { none = h.none; events = (tt, h.events) }

-- how many are known before the first that isn't
abbrev known_len : List ScenarioStep → ℕ
known_len ss = position_or_len (λ x. not (is_known x)) ss

none_unknown : (ss : List ScenarioStep) → first_unsupported_of ss ≡ None → length ss ≤ known_len ss
none_unknown ss e = go (nat_lt (known_len ss) (length ss)) refl e
  where
    go : (b : Bool) → nat_lt (known_len ss) (length ss) ≡ b → cond b (Some (known_len ss)) None ≡ None → length ss ≤ known_len ss
    go true h f = let bad : Some (known_len ss) ≡ None = f in cc
    go false h f = ltb-false (known_len ss) (length ss) h

known_more : (s : ScenarioStep) (ss : List ScenarioStep) → length (s ∷ ss) ≤ known_len (s ∷ ss) → (is_known s ≡ true) × (length ss ≤ known_len ss)
known_more s ss e = go (is_known s) refl e
  where
    go : (b : Bool) → is_known s ≡ b → suc (length ss) ≤ cond (not (not b)) (1 + known_len ss) 0 → (is_known s ≡ true) × (length ss ≤ known_len ss)
    go true k f = (k, omega (arith, f))
    go false k f = absurd (omega (arith, f))

run_clean : (w : World) (ss : List ScenarioStep) (c : Trace) → length ss ≤ known_len ss → Clean c → Clean (run w ss c)
unfolding run
run_clean w [] c e h = h
run_clean w (s ∷ ss) c e h =
    let k : (is_known s ≡ true) × (length ss ≤ known_len ss) = known_more s ss e in
    run_clean w ss (after w s c) k.1 (after_clean w s c k.0 h)

start_clean : (nodes : ℕ) → Clean (start nodes)
start_clean nodes = record { none = λ n. unmarked nodes n; events = tt }
  where
    unmarked : (m n : ℕ) → marks_or (slice_get (replicate m none_marked) n) ≡ none_marked
    unmarked zero n = refl
    unmarked (suc m) zero = refl
    unmarked (suc m) (suc n) = unmarked m n

-- what a record has of a node, but for its servings
abbrev done_on : ℕ → List Event → List Event
done_on n es = filter (λ e. not (is_serve e)) (filter (λ e. node_of e == n) es)

done_more : (n : ℕ) (s : LogEntry) (past : List LogEntry) → done_on n (map (λ x. x.event) (reverse (s ∷ past))) ≡ done_on n (map (λ x. x.event) (reverse past)) ++ done_on n (s.event ∷ [])
done_more n s past =
    ap (λ (l : List LogEntry). done_on n (map (λ x. x.event) l)) (reverse-append (s ∷ []) past)
    ∙ ap (done_on n) (map-append (λ (x : LogEntry). x.event) (reverse past) (s ∷ []))
    ∙ ap (filter (λ (e : Event). not (is_serve e))) (filter-append (λ (e : Event). node_of e == n) (map (λ x. x.event) (reverse past)) (s.event ∷ []))
    ∙ filter-append (λ (e : Event). not (is_serve e)) (filter (λ e. node_of e == n) (map (λ x. x.event) (reverse past))) (filter (λ e. node_of e == n) (s.event ∷ []))

one_told : (n : ℕ) (e : Event) → IsUnmarked e → node_of e ≡ n → filter (λ x. not (is_serve x)) (e ∷ []) ≡ map (event_of n) (commands_of (e ∷ []))
one_told n (Install m v) h at = ap (λ (k : ℕ). Install k v ∷ []) at
one_told n (Arrive m k marks) h at = ap (λ (j : ℕ). Arrive j k marks ∷ []) at ∙ ap (λ (l : List Bool). Arrive n k l ∷ []) h
one_told n (Serve m w v r) h at = refl
one_told n (Restart m) h at = ap (λ (k : ℕ). Restart k ∷ []) at

on_told : (n : ℕ) (e : Event) → IsUnmarked e → done_on n (e ∷ []) ≡ map (event_of n) (commands_on n (e ∷ []))
on_told n e h = go (node_of e == n) refl
  where
    go : (b : Bool) → (node_of e == n) ≡ b → filter (λ x. not (is_serve x)) (cond b (e ∷ []) []) ≡ map (event_of n) (commands_of (cond b (e ∷ []) []))
    go true i = one_told n e h (eqb-true (node_of e) n i)
    go false i = refl

all_told : (n : ℕ) (past : List LogEntry) → AreUnmarked past → done_on n (map (λ x. x.event) (reverse past)) ≡ map (event_of n) (told_to n past)
all_told n [] h = refl
all_told n (s ∷ past) h =
    done_more n s past
    ∙ ap (λ (l : List Event). l ++ done_on n (s.event ∷ [])) (all_told n past h.1)
    ∙ ap (λ (l : List Event). map (event_of n) (told_to n past) ++ l) (on_told n s.event h.0)
    ∙ sym (ap (map (event_of n)) (told_more n s past) ∙ map-append (event_of n) (told_to n past) (commands_on n (s.event ∷ [])))

pub known_steps_are_told : KnownStepsAreTold
known_steps_are_told cluster choice packets ss nodes n e =
    let c : Trace = run (world_of cluster choice packets) ss (start nodes) in
    all_told n c.past (run_clean (world_of cluster choice packets) ss (start nodes) (none_unknown ss e) (start_clean nodes)).events
    ∙ ap (map (event_of n)) ((traces_alike cluster noting choice packets ss nodes).told n)
    ∙ sym (ended_events n (ends_on n ss) (commands_on n (events_of (plan_of choice packets ss nodes))))
