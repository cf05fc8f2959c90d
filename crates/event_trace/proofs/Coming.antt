-- What a run that reads its records one by one rests on.
use Rattle.cluster_node.specs.Records.{said, placed_on}
use Rattle.std.proofs.Common.{◌≡◌, ℕ, zero, suc, ◌+◌, Bool, true, false, List, [], ◌∷◌, ◌++◌, length, take, Option, Some, None, refl, sym, ap, ◌∙◌, arith, append_assoc, drop_at, take_at, length-append}
use Rattle.std.specs.Prelude.{if◌then◌else◌, slice_get}
use Rattle.cluster_node.specs.declared.events.LogEntry.{LogEntry}
use Rattle.cluster_node.specs.declared.events.Event.{Event}
use Rattle.cluster_node.specs.declared.packets.Packet.{Packet}
use Rattle.cluster_core.specs.Cluster.{flow_of}
use Rattle.cluster_core.specs.Cluster.{Cluster, waiting_on}
use Rattle.spreader.specs.Choices.{Choice}
use Rattle.event_trace.specs.declared.steps.ScenarioStep.{ScenarioStep}
use Rattle.event_trace.specs.declared.steps.ScenarioStep.TheVariants as steps
use Rattle.event_trace.specs.Trace.{Trace}
use Rattle.event_trace.proofs.Moves.{deliver_hands}
use Rattle.event_trace.specs.Steps.{World, world_of, is_held, say, serve, follow, arrival, arrive, route, deliver, take_all, repeat, serve_times, drain_from, release, next_ones, after, run}

-- the list goes on with later events
pub record Grows (old new : List LogEntry) : Type 0 where
  pub news : List LogEntry
  pub is : new ≡ news ++ old

grows_none : (a : List LogEntry) → Grows a a
grows_none a = record { news = []; is = refl }

pub grows_both : (a b c : List LogEntry) → Grows a b → Grows b c → Grows a c
grows_both a b c p q = record { news = q.news ++ p.news; is = q.is ∙ ap (λ (l : List LogEntry). q.news ++ l) p.is ∙ sym (append_assoc q.news p.news a) }

say_grows : (w : World) (e : Event) (p : Option Packet) (c : Trace) → Grows c.past (say w e p c).past
say_grows w e p c = record { news = said w.cluster.judge c.past e p ∷ []; is = refl }

serve_grows : (w : World) (n u : ℕ) (c : Trace) → Grows c.past (serve w n u c).past
unfolding serve
serve_grows w n u c = say_grows w _ None c

held_grows : (w : World) (n u : ℕ) (c : Trace) (b : Bool) → Grows c.past (if b then c else serve w n u c).past
held_grows w n u c true = grows_none c.past
held_grows w n u c false = serve_grows w n u c

follow_grows : (w : World) (n : ℕ) (o : Option ℕ) (c : Trace) → Grows c.past (follow w n o c).past
unfolding follow
follow_grows w n None c = grows_none c.past
follow_grows w n (Some u) c = held_grows w n u c (is_held n c)

arrive_grows : (w : World) (n k : ℕ) (p : Packet) (c : Trace) → Grows c.past (arrive w n k p c).past
unfolding arrive
arrive_grows w n k p c = grows_both c.past (say w (arrival n k c) (Some p) c).past _ (say_grows w (arrival n k c) (Some p) c) (follow_grows w n (placed_on (w.cluster.judge c.past (arrival n k c) (Some p))) (say w (arrival n k c) (Some p) c))

route_grows : (w : World) (k : ℕ) (p : Packet) (o : Option ℕ) (c : Trace) → Grows c.past (route w k p o c).past
unfolding route
route_grows w k p None c = grows_none c.past
route_grows w k p (Some n) c = arrive_grows w n k p c

pub deliver_grows : (w : World) (k : ℕ) (p : Packet) (c : Trace) → Grows c.past (deliver w k p c).past
unfolding deliver
deliver_grows w k p c = route_grows w k p (w.choice c.live (flow_of p) c.nth) (record c { nth = c.nth + 1 })

pub take_grows : (w : World) (ps : List Packet) (c : Trace) → Grows c.past (take_all w ps c).past
unfolding take_all
take_grows w [] c = grows_none c.past
take_grows w (p ∷ ps) c =
    grows_both c.past (deliver w c.read p (record c { read = c.read + 1 })).past _ (deliver_grows w c.read p (record c { read = c.read + 1 })) (take_grows w ps (deliver w c.read p (record c { read = c.read + 1 })))

repeat_grows : (w : World) (k : ℕ) (o : Option Packet) (c : Trace) → Grows c.past (repeat w k o c).past
unfolding repeat
repeat_grows w k None c = grows_none c.past
repeat_grows w k (Some p) c = deliver_grows w k p c

pub times_grows : (w : World) (n u m : ℕ) (c : Trace) → Grows c.past (serve_times w n u m c).past
unfolding serve_times
times_grows w n u zero c = grows_none c.past
times_grows w n u (suc m) c = grows_both c.past (serve w n u c).past _ (serve_grows w n u c) (times_grows w n u m (serve w n u c))

pub drain_grows : (w : World) (n u m : ℕ) (c : Trace) → Grows c.past (drain_from w n u m c).past
unfolding drain_from
drain_grows w n u zero c = grows_none c.past
drain_grows w n u (suc m) c = grows_both c.past (serve_times w n u (waiting_on w.cluster n u c.past) c).past _ (times_grows w n u (waiting_on w.cluster n u c.past) c) (drain_grows w n (u + 1) m (serve_times w n u (waiting_on w.cluster n u c.past) c))

pub after_grows : (w : World) (s : ScenarioStep) (c : Trace) → Grows c.past (after w s c).past
unfolding after
after_grows w (steps.Install m v) c = say_grows w _ None c
after_grows w (steps.Live ns) c = grows_none c.past
after_grows w (steps.Take k) c = take_grows w (next_ones w k c) c
after_grows w (steps.Lose k) c = grows_none c.past
after_grows w (steps.Again k) c = repeat_grows w k (slice_get (take c.read w.packets) k) c
after_grows w (steps.Full m ms) c = grows_none c.past
after_grows w (steps.Hold m) c = grows_none c.past
after_grows w (steps.Drain m) c = drain_grows w m 0 w.cluster.workers (release m c)
after_grows w (steps.Restart m) c = say_grows w _ None (release m c)
after_grows w (steps.Stop m) c = say_grows w _ None (release m c)

pub run_grows : (w : World) (ss : List ScenarioStep) (c : Trace) → Grows c.past (run w ss c).past
unfolding run
run_grows w [] c = grows_none c.past
run_grows w (s ∷ ss) c = grows_both c.past (after w s c).past _ (after_grows w s c) (run_grows w ss (after w s c))

take_nil : (k : ℕ) → take {A = Packet} k [] ≡ []
take_nil zero = refl
take_nil (suc k) = refl

-- where the records read are those seen, the next ones are the first of those that come
pub next_come : (cluster : Cluster) (choice : Choice) (seen more : List Packet) (k : ℕ) (c : Trace) → c.read ≡ length seen
    → next_ones (world_of cluster choice (seen ++ more)) k c ≡ take k more
next_come cluster choice seen more k c e = ap (take k) (drop_at seen more c.read (sym e))

-- and those that a repeat may name are the ones seen
pub seen_only : (seen more : List Packet) (k : ℕ) (c : Trace) → c.read ≡ length seen → slice_get (take c.read (seen ++ more)) k ≡ slice_get seen k
seen_only seen more k c e = ap (λ (l : List Packet). slice_get l k) (take_at seen more c.read (sym e))

-- a record that comes is delivered, and one fewer is to be taken
pub take_one : (cluster : Cluster) (choice : Choice) (seen more : List Packet) (p : Packet) (k : ℕ) (ss : List ScenarioStep) (c : Trace) → c.read ≡ length seen
    → (w : World) → w ≡ world_of cluster choice (seen ++ p ∷ more)
    → run w (steps.Take (suc k) ∷ ss) c ≡ run w (steps.Take k ∷ ss) (deliver w c.read p (record c { read = c.read + 1 }))
unfolding run after take_all
take_one cluster choice seen more p k ss c e w i =
    let first : next_ones w (suc k) c ≡ p ∷ take k more = ap (λ (v : World). next_ones v (suc k) c) i ∙ next_come cluster choice seen (p ∷ more) (suc k) c e in
    let moved : (deliver w c.read p (record c { read = c.read + 1 })).read ≡ length (seen ++ p ∷ []) = (deliver_hands w c.read p (record c { read = c.read + 1 })).read ∙ omega (arith, e, length-append seen (p ∷ [])) in
    let rest : next_ones w k (deliver w c.read p (record c { read = c.read + 1 })) ≡ take k more =
    ap (λ (v : World). next_ones v k (deliver w c.read p (record c { read = c.read + 1 }))) (i ∙ ap (λ (l : List Packet). world_of cluster choice l) (sym (append_assoc seen (p ∷ []) more)))
    ∙ next_come cluster choice (seen ++ p ∷ []) more k (deliver w c.read p (record c { read = c.read + 1 })) moved in
    ap (λ (l : List Packet). run w ss (take_all w l c)) first
    ∙ ap (λ (l : List Packet). run w ss (take_all w l (deliver w c.read p (record c { read = c.read + 1 })))) (sym rest)

-- where none comes, nothing is left to be taken
pub take_ended : (cluster : Cluster) (choice : Choice) (seen : List Packet) (k : ℕ) (ss : List ScenarioStep) (c : Trace) → c.read ≡ length seen
    → (w : World) → w ≡ world_of cluster choice (seen ++ [])
    → run w (steps.Take k ∷ ss) c ≡ run w ss c
unfolding run after take_all
take_ended cluster choice seen k ss c e w i =
    let none : next_ones w k c ≡ [] = ap (λ (v : World). next_ones v k c) i ∙ next_come cluster choice seen [] k c e ∙ take_nil k in
    ap (λ (l : List Packet). run w ss (take_all w l c)) none

pub take_zero : (w : World) (k : ℕ) (ss : List ScenarioStep) (c : Trace) → k ≡ 0 → run w (steps.Take k ∷ ss) c ≡ run w ss c
unfolding run after take_all
take_zero w k ss c e = ap (λ (m : ℕ). run w (steps.Take m ∷ ss) c) e

-- a record that is lost, and one fewer is to be lost
pub lose_one : (cluster : Cluster) (choice : Choice) (seen more : List Packet) (p : Packet) (k : ℕ) (ss : List ScenarioStep) (c : Trace) → c.read ≡ length seen
    → (w : World) → w ≡ world_of cluster choice (seen ++ p ∷ more)
    → run w (steps.Lose (suc k) ∷ ss) c ≡ run w (steps.Lose k ∷ ss) (record c { read = c.read + 1; lost = c.lost + 1 })
unfolding run after
lose_one cluster choice seen more p k ss c e w i =
    let d : Trace = record c { read = c.read + 1; lost = c.lost + 1 } in
    let first : next_ones w (suc k) c ≡ p ∷ take k more = ap (λ (v : World). next_ones v (suc k) c) i ∙ next_come cluster choice seen (p ∷ more) (suc k) c e in
    let moved : d.read ≡ length (seen ++ p ∷ []) = omega (arith, e, length-append seen (p ∷ [])) in
    let rest : next_ones w k d ≡ take k more =
    ap (λ (v : World). next_ones v k d) (i ∙ ap (λ (l : List Packet). world_of cluster choice l) (sym (append_assoc seen (p ∷ []) more)))
    ∙ next_come cluster choice (seen ++ p ∷ []) more k d moved in
    let n : length (next_ones w (suc k) c) ≡ 1 + length (next_ones w k d) = omega (arith, ap length first, ap length rest) in
    ap (λ (x : Trace). run w ss x) (lost_same c (length (next_ones w (suc k) c)) (length (next_ones w k d)) n)
  where
    lost_same : (c : Trace) (a b : ℕ) → a ≡ 1 + b → (record c { read = c.read + a; lost = c.lost + a }) ≡ (record c { read = c.read + 1 + b; lost = c.lost + 1 + b })
    lost_same c a b h = ap (λ (m : ℕ). record c { read = m; lost = c.lost + a }) (omega (arith, h)) ∙ ap (λ (m : ℕ). record c { read = c.read + 1 + b; lost = m }) (omega (arith, h))

-- where none comes, nothing is left to be lost
pub lose_ended : (cluster : Cluster) (choice : Choice) (seen : List Packet) (k : ℕ) (ss : List ScenarioStep) (c : Trace) → c.read ≡ length seen
    → (w : World) → w ≡ world_of cluster choice (seen ++ [])
    → run w (steps.Lose k ∷ ss) c ≡ run w ss c
unfolding run after
lose_ended cluster choice seen k ss c e w i =
    let none : length (next_ones w k c) ≡ 0 = ap (λ (v : World). length (next_ones v k c)) i ∙ ap length (next_come cluster choice seen [] k c e ∙ take_nil k) in
    ap (λ (x : Trace). run w ss x) (lost_none c (length (next_ones w k c)) none)
  where
    lost_none : (c : Trace) (a : ℕ) → a ≡ 0 → (record c { read = c.read + a; lost = c.lost + a }) ≡ c
    lost_none c a h = ap (λ (m : ℕ). record c { read = m; lost = c.lost + a }) (omega (arith, h)) ∙ ap (λ (m : ℕ). record c { lost = m }) (omega (arith, h))

pub lose_zero : (w : World) (k : ℕ) (ss : List ScenarioStep) (c : Trace) → k ≡ 0 → run w (steps.Lose k ∷ ss) c ≡ run w ss c
unfolding run after
lose_zero w k ss c e = ap (λ (m : ℕ). run w (steps.Lose m ∷ ss) c) e ∙ ap (λ (x : Trace). run w ss x) (lost_nothing c)
  where
    lost_nothing : (c : Trace) → (record c { read = c.read + 0; lost = c.lost + 0 }) ≡ c
    lost_nothing c = ap (λ (m : ℕ). record c { read = m; lost = c.lost + 0 }) (omega arith) ∙ ap (λ (m : ℕ). record c { lost = m }) (omega arith)

pub run_cons : (w : World) (s : ScenarioStep) (ss : List ScenarioStep) (c : Trace) → run w (s ∷ ss) c ≡ run w ss (after w s c)
unfolding run
run_cons w s ss c = refl

pub again_is : (w : World) (k : ℕ) (c : Trace) → after w (steps.Again k) c ≡ repeat w k (slice_get (take c.read w.packets) k) c
unfolding after
again_is w k c = refl

pub drain_is : (w : World) (n : ℕ) (c : Trace) → after w (steps.Drain n) c ≡ drain_from w n 0 w.cluster.workers (release n c)
unfolding after
drain_is w n c = refl

pub repeat_some : (w : World) (k : ℕ) (p : Packet) (c : Trace) → repeat w k (Some p) c ≡ deliver w k p c
unfolding repeat
repeat_some w k p c = refl

pub repeat_none : (w : World) (k : ℕ) (c : Trace) → repeat w k None c ≡ record c { skipped = c.skipped + 1 }
unfolding repeat
repeat_none w k c = refl
