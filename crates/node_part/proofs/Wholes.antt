-- A part's run is the whole run's part.
use Rattle.std.proofs.Common.{◌≡◌, ℕ, zero, suc, ◌+◌, Bool, true, false, List, [], ◌∷◌, length, take, Option, Some, None, refl, sym, ap, ◌∙◌}
use Rattle.std.specs.Prelude.{◌&&◌, nat_lt, if◌then◌else◌, slice_get, slice_set}
use Rattle.cluster_node.specs.declared.packets.Packet.{Packet}
use Rattle.cluster_node.specs.declared.events.Event.{Event}
use Rattle.cluster_node.specs.declared.events.Event.TheVariants.{Install, Serve, Restart}
use Rattle.cluster_node.specs.declared.events.LogEntry.{LogEntry}
use Rattle.cluster_node.specs.declared.outcomes.Outcome.{Outcome}
use Rattle.cluster_node.specs.declared.outcomes.Outcome.TheVariants.{Refused}
use Rattle.cluster_node.specs.declared.outcomes.Reason.TheVariants.{NoNode}
use Rattle.cluster_node.specs.Rules.{Rules}
use Rattle.cluster_node.specs.Record.{newest_of, lines_of, node_verdict}
use Rattle.cluster_node.specs.Records.{Judge, node_of, of_node, said, placed_on}
use Rattle.spreader.specs.Choices.{Choice}
use Rattle.cluster_core.specs.Cluster.{Cluster, newest_on, waiting_on, flow_of, left_of as waiting_by}
use Rattle.cluster_core.specs.Runs.{verdict}
use Rattle.event_trace.specs.declared.steps.ScenarioStep.{ScenarioStep}
use Rattle.event_trace.specs.declared.steps.ScenarioStep.TheVariants as steps
use Rattle.event_trace.specs.Trace.{Trace}
use Rattle.event_trace.specs.Steps.{World, world_of, is_held, say, serve, follow, arrival, arrive, route, deliver, take_all, repeat, serve_times, drain_from, release, next_ones, after, run, start}
use Rattle.node_part.specs.Parts.{leaves_out, of_part, part_judge, part_of, part_trace, IsOwn}
use Rattle.node_part.specs.Wholes.{traced}
use Rattle.node_part.proofs.Parts.{kept_of, left_of, own_node, kept_outcome}

-- a node's verdicts are its own
pub verdicts_own : (rules : Rules) → IsOwn (verdict rules)
verdicts_own rules past other e p same = ap (λ (l : List LogEntry). if nat_lt (node_of e) rules.nodes then node_verdict rules l e p else Refused NoNode) same

-- two traces have the same part
abbrev Alike : Option ℕ → Trace → Trace → Type 0
Alike only d c = part_trace only d ≡ part_trace only c

-- the same world, of whose cluster the part is played
abbrev part_world : Option ℕ → World → World
part_world only w = record w { cluster = part_of only w.cluster }

same_part : (only : Option ℕ) (d c : Trace) → Alike only d c → of_part only d.past ≡ of_part only c.past
same_part only d c same = ap (λ (t : Trace). t.past) same

same_node : (only : Option ℕ) (n : ℕ) (a b : List LogEntry) → leaves_out only n ≡ false → of_part only a ≡ of_part only b → of_node n a ≡ of_node n b
same_node only n a b h same = sym (own_node only n a h) ∙ ap (of_node n) same ∙ own_node only n b h

same_outcome : (only : Option ℕ) (judge : Judge) → IsOwn judge → (e : Event) (p : Option Packet) (a b : List LogEntry) → leaves_out only (node_of e) ≡ false → of_part only a ≡ of_part only b → part_judge only judge a e p ≡ judge b e p
same_outcome only judge own e p a b h same = kept_outcome only judge a e p h ∙ ap (λ (l : List LogEntry). judge l e p) same ∙ own (of_part only b) b e p (own_node only (node_of e) b h)

-- an event that is left out changes nothing of the part, whoever judges
said_left : (only : Option ℕ) (w : World) (e : Event) (p : Option Packet) (c : Trace) → leaves_out only (node_of e) ≡ true → Alike only (say w e p c) c
said_left only w e p c h = ap (λ (l : List LogEntry). record c { past = l }) (left_of only (said w.cluster.judge c.past e p) c.past h)

-- an event of the part has the outcome that it has in the whole run
said_kept : (only : Option ℕ) (w : World) → IsOwn w.cluster.judge → (e : Event) (p : Option Packet) (d c : Trace) → leaves_out only (node_of e) ≡ false → Alike only d c → Alike only (say (part_world only w) e p d) (say w e p c)
said_kept only w own e p d c h same =
    let one : LogEntry = said (part_judge only w.cluster.judge) d.past e p in
    let two : LogEntry = said w.cluster.judge c.past e p in
    let is : one ≡ two = ap (λ (o : Outcome). record { event = e; packet = p; outcome = o }) (same_outcome only w.cluster.judge own e p d.past c.past h (same_part only d c same)) in
    let pasts : of_part only (one ∷ d.past) ≡ of_part only (two ∷ c.past) =
    kept_of only one d.past h ∙ ap (λ (s : LogEntry). s ∷ of_part only d.past) is ∙ ap (λ (l : List LogEntry). two ∷ l) (same_part only d c same) ∙ sym (kept_of only two c.past h) in
    ap (λ (l : List LogEntry). record d { past = l }) pasts ∙ ap (λ (t : Trace). record t { past = of_part only (two ∷ c.past) }) same

said_alike : (only : Option ℕ) (w : World) → IsOwn w.cluster.judge → (e : Event) (p : Option Packet) (d c : Trace) → Alike only d c → Alike only (say (part_world only w) e p d) (say w e p c)
said_alike only w own e p d c same = go (leaves_out only (node_of e)) refl
  where
    go : (b : Bool) → leaves_out only (node_of e) ≡ b → Alike only (say (part_world only w) e p d) (say w e p c)
    go true h = said_left only (part_world only w) e p d h ∙ same ∙ sym (said_left only w e p c h)
    go false h = said_kept only w own e p d c h same

serve_left : (only : Option ℕ) (w : World) (n u : ℕ) (c : Trace) → leaves_out only n ≡ true → Alike only (serve w n u c) c
unfolding serve
serve_left only w n u c h = said_left only w (Serve n u (newest_on w.cluster n c.past) false) None c h

newest_same : (only : Option ℕ) (k : Cluster) (n : ℕ) (a b : List LogEntry) → leaves_out only n ≡ false → of_part only a ≡ of_part only b → newest_on (part_of only k) n a ≡ newest_on k n b
unfolding newest_on
newest_same only k n a b h same = ap (λ (l : List LogEntry). if nat_lt n k.nodes then newest_of l else 0) (same_node only n a b h same)

waiting_same : (only : Option ℕ) (k : Cluster) (n u : ℕ) (a b : List LogEntry) → leaves_out only n ≡ false → of_part only a ≡ of_part only b → waiting_on (part_of only k) n u a ≡ waiting_on k n u b
unfolding waiting_on
waiting_same only k n u a b h same = ap (λ (l : List LogEntry). if nat_lt n k.nodes && nat_lt u k.workers then waiting_by (lines_of u l) else 0) (same_node only n a b h same)

serve_kept : (only : Option ℕ) (w : World) → IsOwn w.cluster.judge → (n u : ℕ) (d c : Trace) → leaves_out only n ≡ false → Alike only d c → Alike only (serve (part_world only w) n u d) (serve w n u c)
unfolding serve
serve_kept only w own n u d c h same =
    let versions = newest_same only w.cluster n d.past c.past h (same_part only d c same) in
    ap (λ (v : ℕ). part_trace only (say (part_world only w) (Serve n u v false) None d)) versions
    ∙ said_kept only w own (Serve n u (newest_on w.cluster n c.past) false) None d c h same

follow_left : (only : Option ℕ) (w : World) (n : ℕ) (o : Option ℕ) (c : Trace) → leaves_out only n ≡ true → Alike only (follow w n o c) c
unfolding follow
follow_left only w n None c h = refl
follow_left only w n (Some u) c h = go (is_held n c)
  where
    go : (b : Bool) → Alike only (if b then c else serve w n u c) c
    go true = refl
    go false = serve_left only w n u c h

follow_kept : (only : Option ℕ) (w : World) → IsOwn w.cluster.judge → (n : ℕ) (o : Option ℕ) (d c : Trace) → leaves_out only n ≡ false → Alike only d c → Alike only (follow (part_world only w) n o d) (follow w n o c)
unfolding follow
follow_kept only w own n None d c h same = same
follow_kept only w own n (Some u) d c h same =
    ap (λ (b : Bool). part_trace only (if b then d else serve (part_world only w) n u d)) (ap (λ (t : Trace). is_held n t) same) ∙ go (is_held n c)
  where
    go : (b : Bool) → Alike only (if b then d else serve (part_world only w) n u d) (if b then c else serve w n u c)
    go true = same
    go false = serve_kept only w own n u d c h same

arrive_left : (only : Option ℕ) (w : World) (n k : ℕ) (p : Packet) (c : Trace) → leaves_out only n ≡ true → Alike only (arrive w n k p c) c
unfolding arrive
arrive_left only w n k p c h =
    follow_left only w n (placed_on (w.cluster.judge c.past (arrival n k c) (Some p))) (say w (arrival n k c) (Some p) c) h
    ∙ said_left only w (arrival n k c) (Some p) c h

arrive_kept : (only : Option ℕ) (w : World) → IsOwn w.cluster.judge → (n k : ℕ) (p : Packet) (d c : Trace) → leaves_out only n ≡ false → Alike only d c → Alike only (arrive (part_world only w) n k p d) (arrive w n k p c)
unfolding arrive
arrive_kept only w own n k p d c h same =
    let judge = part_judge only w.cluster.judge in
    let e = arrival n k c in
    ap (λ (f : Event). part_trace only (follow (part_world only w) n (placed_on (judge d.past f (Some p))) (say (part_world only w) f (Some p) d))) (ap (λ (t : Trace). arrival n k t) same)
    ∙ ap (λ (o : Outcome). part_trace only (follow (part_world only w) n (placed_on o) (say (part_world only w) e (Some p) d))) (same_outcome only w.cluster.judge own e (Some p) d.past c.past h (same_part only d c same))
    ∙ follow_kept only w own n (placed_on (w.cluster.judge c.past e (Some p))) (say (part_world only w) e (Some p) d) (say w e (Some p) c) h (said_kept only w own e (Some p) d c h same)

route_alike : (only : Option ℕ) (w : World) → IsOwn w.cluster.judge → (k : ℕ) (p : Packet) (o : Option ℕ) (d c : Trace) → Alike only d c → Alike only (route (part_world only w) k p o d) (route w k p o c)
unfolding route
route_alike only w own k p None d c same = ap (λ (t : Trace). record t { unrouted = t.unrouted + 1 }) same
route_alike only w own k p (Some n) d c same = go (leaves_out only n) refl
  where
    go : (b : Bool) → leaves_out only n ≡ b → Alike only (arrive (part_world only w) n k p d) (arrive w n k p c)
    go true h = arrive_left only (part_world only w) n k p d h ∙ same ∙ sym (arrive_left only w n k p c h)
    go false h = arrive_kept only w own n k p d c h same

deliver_alike : (only : Option ℕ) (w : World) → IsOwn w.cluster.judge → (k : ℕ) (p : Packet) (d c : Trace) → Alike only d c → Alike only (deliver (part_world only w) k p d) (deliver w k p c)
unfolding deliver
deliver_alike only w own k p d c same =
    ap (λ (o : Option ℕ). part_trace only (route (part_world only w) k p o (record d { nth = d.nth + 1 }))) (ap (λ (t : Trace). w.choice t.live (flow_of p) t.nth) same)
    ∙ route_alike only w own k p (w.choice c.live (flow_of p) c.nth) (record d { nth = d.nth + 1 }) (record c { nth = c.nth + 1 }) (ap (λ (t : Trace). record t { nth = t.nth + 1 }) same)

take_alike : (only : Option ℕ) (w : World) → IsOwn w.cluster.judge → (ps : List Packet) (d c : Trace) → Alike only d c → Alike only (take_all (part_world only w) ps d) (take_all w ps c)
unfolding take_all
take_alike only w own [] d c same = same
take_alike only w own (p ∷ ps) d c same =
    take_alike only w own ps (deliver (part_world only w) d.read p (record d { read = d.read + 1 })) (deliver w c.read p (record c { read = c.read + 1 }))
    (ap (λ (k : ℕ). part_trace only (deliver (part_world only w) k p (record d { read = d.read + 1 }))) (ap (λ (t : Trace). t.read) same)
    ∙ deliver_alike only w own c.read p (record d { read = d.read + 1 }) (record c { read = c.read + 1 }) (ap (λ (t : Trace). record t { read = t.read + 1 }) same))

repeat_alike : (only : Option ℕ) (w : World) → IsOwn w.cluster.judge → (k : ℕ) (o : Option Packet) (d c : Trace) → Alike only d c → Alike only (repeat (part_world only w) k o d) (repeat w k o c)
unfolding repeat
repeat_alike only w own k None d c same = ap (λ (t : Trace). record t { skipped = t.skipped + 1 }) same
repeat_alike only w own k (Some p) d c same = deliver_alike only w own k p d c same

times_left : (only : Option ℕ) (w : World) (n u m : ℕ) (c : Trace) → leaves_out only n ≡ true → Alike only (serve_times w n u m c) c
unfolding serve_times
times_left only w n u zero c h = refl
times_left only w n u (suc m) c h = times_left only w n u m (serve w n u c) h ∙ serve_left only w n u c h

times_kept : (only : Option ℕ) (w : World) → IsOwn w.cluster.judge → (n u m : ℕ) (d c : Trace) → leaves_out only n ≡ false → Alike only d c → Alike only (serve_times (part_world only w) n u m d) (serve_times w n u m c)
unfolding serve_times
times_kept only w own n u zero d c h same = same
times_kept only w own n u (suc m) d c h same = times_kept only w own n u m (serve (part_world only w) n u d) (serve w n u c) h (serve_kept only w own n u d c h same)

drain_left : (only : Option ℕ) (w : World) (n u m : ℕ) (c : Trace) → leaves_out only n ≡ true → Alike only (drain_from w n u m c) c
unfolding drain_from
drain_left only w n u zero c h = refl
drain_left only w n u (suc m) c h =
    drain_left only w n (u + 1) m (serve_times w n u (waiting_on w.cluster n u c.past) c) h ∙ times_left only w n u (waiting_on w.cluster n u c.past) c h

drain_kept : (only : Option ℕ) (w : World) → IsOwn w.cluster.judge → (n u m : ℕ) (d c : Trace) → leaves_out only n ≡ false → Alike only d c → Alike only (drain_from (part_world only w) n u m d) (drain_from w n u m c)
unfolding drain_from
drain_kept only w own n u zero d c h same = same
drain_kept only w own n u (suc m) d c h same =
    drain_kept only w own n (u + 1) m (serve_times (part_world only w) n u (waiting_on (part_of only w.cluster) n u d.past) d) (serve_times w n u (waiting_on w.cluster n u c.past) c) h
    (ap (λ (j : ℕ). part_trace only (serve_times (part_world only w) n u j d)) (waiting_same only w.cluster n u d.past c.past h (same_part only d c same))
    ∙ times_kept only w own n u (waiting_on w.cluster n u c.past) d c h same)

drain_alike : (only : Option ℕ) (w : World) → IsOwn w.cluster.judge → (n m : ℕ) (d c : Trace) → Alike only d c → Alike only (drain_from (part_world only w) n 0 m d) (drain_from w n 0 m c)
drain_alike only w own n m d c same = go (leaves_out only n) refl
  where
    go : (b : Bool) → leaves_out only n ≡ b → Alike only (drain_from (part_world only w) n 0 m d) (drain_from w n 0 m c)
    go true h = drain_left only (part_world only w) n 0 m d h ∙ same ∙ sym (drain_left only w n 0 m c h)
    go false h = drain_kept only w own n 0 m d c h same

released : (only : Option ℕ) (n : ℕ) (d c : Trace) → Alike only d c → Alike only (release n d) (release n c)
released only n d c same = ap (λ (t : Trace). release n t) same

step_alike : (only : Option ℕ) (w : World) → IsOwn w.cluster.judge → (s : ScenarioStep) (d c : Trace) → Alike only d c → Alike only (after (part_world only w) s d) (after w s c)
unfolding after
step_alike only w own (steps.Install n v) d c same = said_alike only w own (Install n v) None d c same
step_alike only w own (steps.Live ns) d c same = ap (λ (t : Trace). record t { live = ns.items }) same
step_alike only w own (steps.Take k) d c same =
    ap (λ (ps : List Packet). part_trace only (take_all (part_world only w) ps d)) (ap (λ (t : Trace). next_ones w k t) same) ∙ take_alike only w own (next_ones w k c) d c same
step_alike only w own (steps.Lose k) d c same = ap (λ (t : Trace). record t { read = t.read + length (next_ones w k t); lost = t.lost + length (next_ones w k t) }) same
step_alike only w own (steps.Again k) d c same =
    ap (λ (o : Option Packet). part_trace only (repeat (part_world only w) k o d)) (ap (λ (t : Trace). slice_get (take t.read w.packets) k) same) ∙ repeat_alike only w own k (slice_get (take c.read w.packets) k) d c same
step_alike only w own (steps.Full n m) d c same = ap (λ (t : Trace). record t { marks = slice_set t.marks n m }) same
step_alike only w own (steps.Hold n) d c same = ap (λ (t : Trace). record t { held = slice_set t.held n true }) same
step_alike only w own (steps.Drain n) d c same = drain_alike only w own n w.cluster.workers (release n d) (release n c) (released only n d c same)
step_alike only w own (steps.Restart n) d c same = said_alike only w own (Restart n) None (release n d) (release n c) (released only n d c same)
step_alike only w own (steps.Stop n) d c same = said_alike only w own (Restart n) None (release n d) (release n c) (released only n d c same)

run_alike : (only : Option ℕ) (w : World) → IsOwn w.cluster.judge → (ss : List ScenarioStep) (d c : Trace) → Alike only d c → Alike only (run (part_world only w) ss d) (run w ss c)
unfolding run
run_alike only w own [] d c same = same
run_alike only w own (s ∷ ss) d c same = run_alike only w own ss (after (part_world only w) s d) (after w s c) (step_alike only w own s d c same)

pub parts_are : (only : Option ℕ) (cluster : Cluster) (choice : Choice) (packets : List Packet) (ss : List ScenarioStep) (nodes : ℕ) → IsOwn cluster.judge
    → part_trace only (traced (part_of only cluster) choice packets ss nodes) ≡ part_trace only (traced cluster choice packets ss nodes)
parts_are only cluster choice packets ss nodes own = run_alike only (world_of cluster choice packets) own ss (start nodes) (start nodes) refl
