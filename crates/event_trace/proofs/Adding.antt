-- The counts of every trace add up.
use Rattle.cluster_node.specs.Records.{placed_on}
use Rattle.std.proofs.Common.{◌≡◌, ℕ, zero, suc, ◌+◌, ◌<◌, ◌≤◌, Bool, true, false, List, [], ◌∷◌, length, take, drop, Option, Some, None, refl, sym, ◌∙◌, subst, arith}
use Rattle.std.specs.Prelude.{if◌then◌else◌, slice_get}
use Rattle.cluster_node.specs.declared.packets.Packet.{Packet}
use Rattle.cluster_node.specs.declared.events.Event.{Event}
use Rattle.cluster_node.specs.declared.events.Event.TheVariants.{Install, Arrive, Serve, Restart}
use Rattle.cluster_node.specs.declared.events.LogEntry.{LogEntry}
use Rattle.cluster_core.specs.Cluster.{flow_of, waiting_on}
use Rattle.event_trace.specs.declared.steps.ScenarioStep.{ScenarioStep}
use Rattle.event_trace.specs.declared.steps.ScenarioStep.TheVariants as steps
use Rattle.event_trace.specs.Trace.{Trace}
use Rattle.event_trace.specs.Steps.{World, is_held, say, serve, follow, arrival, arrive, route, deliver, take_all, repeat, serve_times, drain_from, release, next_ones, after, run, start}
use Rattle.event_trace.specs.Sums.{arrives, arrivals, IsOfRecord, AreOfRecords, again_by, agains, AddsUp, TracesAddUp}
use Rattle.event_trace.proofs.Judging.{run_told}
use Rattle.event_trace.proofs.Moves.{deliver_hands}

-- the same counts: events that are no arrivals were said
pub record Same (w : World) (c d : Trace) : Type 0 where
  pub read : d.read ≡ c.read
  pub nth : d.nth ≡ c.nth
  pub unrouted : d.unrouted ≡ c.unrouted
  pub lost : d.lost ≡ c.lost
  pub skipped : d.skipped ≡ c.skipped
  pub arrived : arrivals d.past ≡ arrivals c.past
  pub records : AreOfRecords w.packets c.read c.past → AreOfRecords w.packets c.read d.past

same_self : (w : World) (c : Trace) → Same w c c
same_self w c = record { read = refl; nth = refl; unrouted = refl; lost = refl; skipped = refl; arrived = refl; records = λ h. h }

same_both : (w : World) (c d e : Trace) → Same w c d → Same w d e → Same w c e
same_both w c d e h k = record {
  read = k.read ∙ h.read;
  nth = k.nth ∙ h.nth;
  unrouted = k.unrouted ∙ h.unrouted;
  lost = k.lost ∙ h.lost;
  skipped = k.skipped ∙ h.skipped;
  arrived = k.arrived ∙ h.arrived;
  records = λ r. subst (λ (n : ℕ). AreOfRecords w.packets n e.past) h.read (k.records (subst (λ (n : ℕ). AreOfRecords w.packets n d.past) (sym h.read) (h.records r)));
}

serve_same : (w : World) (n u : ℕ) (c : Trace) → Same w c (serve w n u c)
unfolding serve
serve_same w n u c = record { read = refl; nth = refl; unrouted = refl; lost = refl; skipped = refl; arrived = (let e : 0 + arrivals c.past ≡ arrivals c.past = omega arith in e); records = λ h. (tt, h) }

held_same : (w : World) (n u : ℕ) (c : Trace) (b : Bool) → Same w c (if b then c else serve w n u c)
held_same w n u c true = same_self w c
held_same w n u c false = serve_same w n u c

follow_same : (w : World) (n : ℕ) (o : Option ℕ) (c : Trace) → Same w c (follow w n o c)
unfolding follow
follow_same w n None c = same_self w c
follow_same w n (Some u) c = held_same w n u c (is_held n c)

times_same : (w : World) (n u m : ℕ) (c : Trace) → Same w c (serve_times w n u m c)
unfolding serve_times
times_same w n u zero c = same_self w c
times_same w n u (suc m) c = same_both w c (serve w n u c) (serve_times w n u m (serve w n u c)) (serve_same w n u c) (times_same w n u m (serve w n u c))

drain_same : (w : World) (n u m : ℕ) (c : Trace) → Same w c (drain_from w n u m c)
unfolding drain_from
drain_same w n u zero c = same_self w c
drain_same w n u (suc m) c =
    let d : Trace = serve_times w n u (waiting_on w.cluster n u c.past) c in
    same_both w c d (drain_from w n (u + 1) m d) (times_same w n u (waiting_on w.cluster n u c.past) c) (drain_same w n (u + 1) m d)

same_adds : (w : World) (repeats : ℕ) (c d : Trace) → Same w c d → AddsUp w repeats c → AddsUp w repeats d
same_adds w repeats c d s h = record {
  few = subst (λ (n : ℕ). n ≤ length w.packets) (sym s.read) h.few;
  handed = (let a : d.nth ≡ c.nth = s.nth in let b : d.unrouted ≡ c.unrouted = s.unrouted in let e : arrivals d.past ≡ arrivals c.past = s.arrived in let f : c.nth ≡ c.unrouted + arrivals c.past = h.handed in omega arith);
  counted = (let a : d.nth ≡ c.nth = s.nth in let b : d.lost ≡ c.lost = s.lost in let e : d.skipped ≡ c.skipped = s.skipped in let g : d.read ≡ c.read = s.read in let f : (c.nth + c.lost) + c.skipped ≡ c.read + repeats = h.counted in omega arith);
  records = subst (λ (n : ℕ). AreOfRecords w.packets n d.past) (sym s.read) (s.records h.records);
}

-- a packet was handed to the spreader, and isn't counted as unrouted or arrived yet
pub record Handing (w : World) (repeats : ℕ) (c : Trace) : Type 0 where
  pub few : c.read ≤ length w.packets
  pub handed : c.nth ≡ (c.unrouted + arrivals c.past) + 1
  pub counted : (c.nth + c.lost) + c.skipped ≡ c.read + repeats
  pub records : AreOfRecords w.packets c.read c.past

arrive_adds : (w : World) (repeats n k : ℕ) (p : Packet) (c : Trace) → k < c.read → slice_get w.packets k ≡ Some p → Handing w repeats c → AddsUp w repeats (arrive w n k p c)
unfolding arrive
arrive_adds w repeats n k p c lt at h = same_adds w repeats (say w (arrival n k c) (Some p) c) (follow w n (placed_on (w.cluster.judge c.past (arrival n k c) (Some p))) (say w (arrival n k c) (Some p) c))
    (follow_same w n (placed_on (w.cluster.judge c.past (arrival n k c) (Some p))) (say w (arrival n k c) (Some p) c))
    (record {
      few = h.few;
      handed = (let e : c.nth ≡ (c.unrouted + arrivals c.past) + 1 = h.handed in let z : c.nth ≡ c.unrouted + (1 + arrivals c.past) = omega arith in z);
      counted = h.counted;
      records = ((lt, sym at), h.records);
    })

route_adds : (w : World) (repeats k : ℕ) (p : Packet) (o : Option ℕ) (c : Trace) → k < c.read → slice_get w.packets k ≡ Some p → Handing w repeats c → AddsUp w repeats (route w k p o c)
unfolding route
route_adds w repeats k p None c lt at h = record {
  few = h.few;
  handed = (let e : c.nth ≡ (c.unrouted + arrivals c.past) + 1 = h.handed in let z : c.nth ≡ (c.unrouted + 1) + arrivals c.past = omega arith in z);
  counted = h.counted;
  records = h.records;
}
route_adds w repeats k p (Some n) c lt at h = arrive_adds w repeats n k p c lt at h

-- one packet more is handed: of a record that was read, or of a repeat
pub record Ready (w : World) (repeats : ℕ) (c : Trace) : Type 0 where
  pub few : c.read ≤ length w.packets
  pub handed : c.nth ≡ c.unrouted + arrivals c.past
  pub counted : ((c.nth + 1) + c.lost) + c.skipped ≡ c.read + repeats
  pub records : AreOfRecords w.packets c.read c.past

deliver_adds : (w : World) (repeats k : ℕ) (p : Packet) (c : Trace) → k < c.read → slice_get w.packets k ≡ Some p → Ready w repeats c → AddsUp w repeats (deliver w k p c)
unfolding deliver
deliver_adds w repeats k p c lt at h = route_adds w repeats k p (w.choice c.live (flow_of p) c.nth) (record c { nth = c.nth + 1 }) lt at (record {
  few = h.few;
  handed = (let e : c.nth ≡ c.unrouted + arrivals c.past = h.handed in let z : c.nth + 1 ≡ (c.unrouted + arrivals c.past) + 1 = omega arith in z);
  counted = h.counted;
  records = h.records;
})

-- more records are read
more_read : (packets : List Packet) (r t : ℕ) (past : List LogEntry) → r ≤ t → AreOfRecords packets r past → AreOfRecords packets t past
more_read packets r t [] le h = tt
more_read packets r t (s ∷ past) le h = (go s.event s.packet h.0, more_read packets r t past le h.1)
  where
    go : (e : Event) (p : Option Packet) → IsOfRecord packets r e p → IsOfRecord packets t e p
    go (Install n v) p k = tt
    go (Arrive n k marks) p q = (omega (arith, q.0), q.1)
    go (Serve n w v f) p k = tt
    go (Restart n) p k = tt

-- some packets are those of the records from a place on
abbrev pub AreFrom : List Packet → ℕ → List Packet → Type 0
AreFrom packets r [] = Unit {0}
AreFrom packets r (p ∷ ps) = (slice_get packets r ≡ Some p) × AreFrom packets (r + 1) ps

from_later : (q : Packet) (packets : List Packet) (r : ℕ) (ps : List Packet) → AreFrom packets r ps → AreFrom (q ∷ packets) (suc r) ps
from_later q packets r [] h = tt
from_later q packets r (p ∷ ps) h =
    let e : suc (r + 1) ≡ suc r + 1 = omega arith in
    (h.0, subst (λ (n : ℕ). AreFrom (q ∷ packets) n ps) e (from_later q packets (r + 1) ps h.1))

next_from : (packets : List Packet) (r k : ℕ) → AreFrom packets r (take k (drop r packets))
next_from [] zero zero = tt
next_from [] zero (suc k) = tt
next_from [] (suc r) zero = tt
next_from [] (suc r) (suc k) = tt
next_from (q ∷ packets) zero zero = tt
next_from (q ∷ packets) zero (suc k) =
    let e : suc 0 ≡ 0 + 1 = omega arith in
    (refl, subst (λ (n : ℕ). AreFrom (q ∷ packets) n (take k packets)) e (from_later q packets 0 (take k packets) (next_from packets 0 k)))
next_from (q ∷ packets) (suc r) k = from_later q packets r (take k (drop r packets)) (next_from packets r k)

within : (packets : List Packet) (r : ℕ) (p : Packet) → slice_get packets r ≡ Some p → r < length packets
within [] r p h = absurd cc
within (q ∷ packets) zero p h = omega arith
within (q ∷ packets) (suc r) p h = let k : r < length packets = within packets r p h in omega arith

from_few : (packets : List Packet) (r : ℕ) (ps : List Packet) → AreFrom packets r ps → r ≤ length packets → r + length ps ≤ length packets
from_few packets r [] h le = omega arith
from_few packets r (p ∷ ps) h le =
    let lt : r < length packets = within packets r p h.0 in
    let k : (r + 1) + length ps ≤ length packets = from_few packets (r + 1) ps h.1 (omega arith) in
    omega arith

take_adds : (w : World) (repeats : ℕ) (ps : List Packet) (c : Trace) → AreFrom w.packets c.read ps → AddsUp w repeats c → AddsUp w repeats (take_all w ps c)
unfolding take_all
take_adds w repeats [] c from h = h
take_adds w repeats (p ∷ ps) c from h =
    let s : Trace = record c { read = c.read + 1 } in
    let lt : c.read < length w.packets = within w.packets c.read p from.0 in
    let ready : Ready w repeats s = record {
      few = (let z : c.read + 1 ≤ length w.packets = omega arith in z);
      handed = h.handed;
      counted = (let e : (c.nth + c.lost) + c.skipped ≡ c.read + repeats = h.counted in let z : ((c.nth + 1) + c.lost) + c.skipped ≡ (c.read + 1) + repeats = omega arith in z);
      records = more_read w.packets c.read (c.read + 1) c.past (omega arith) h.records;
    } in
    let a : AddsUp w repeats (deliver w c.read p s) = deliver_adds w repeats c.read p s (omega arith) from.0 ready in
    let r : (deliver w c.read p s).read ≡ c.read + 1 = (deliver_hands w c.read p s).read in
    take_adds w repeats ps (deliver w c.read p s) (subst (λ (n : ℕ). AreFrom w.packets n ps) (sym r) from.1) a

-- one of the first
get_take : (n : ℕ) (xs : List Packet) (k : ℕ) (p : Packet) → slice_get (take n xs) k ≡ Some p → (k < n) × (slice_get xs k ≡ Some p)
get_take zero [] k p h = absurd cc
get_take zero (x ∷ xs) k p h = absurd cc
get_take (suc n) [] k p h = absurd cc
get_take (suc n) (x ∷ xs) zero p h = (omega arith, h)
get_take (suc n) (x ∷ xs) (suc k) p h = let g : (k < n) × (slice_get xs k ≡ Some p) = get_take n xs k p h in (omega (arith, g.0), g.1)

repeat_adds : (w : World) (repeats k : ℕ) (c : Trace) → (o : Option Packet) → slice_get (take c.read w.packets) k ≡ o → AddsUp w repeats c → AddsUp w (repeats + 1) (repeat w k o c)
unfolding repeat
repeat_adds w repeats k c None e h = record {
  few = h.few;
  handed = h.handed;
  counted = (let f : (c.nth + c.lost) + c.skipped ≡ c.read + repeats = h.counted in let z : (c.nth + c.lost) + (c.skipped + 1) ≡ c.read + (repeats + 1) = omega arith in z);
  records = h.records;
}
repeat_adds w repeats k c (Some p) e h =
    let g : (k < c.read) × (slice_get w.packets k ≡ Some p) = get_take c.read w.packets k p e in
    deliver_adds w (repeats + 1) k p c g.0 g.1 (record {
      few = h.few;
      handed = h.handed;
      counted = (let f : (c.nth + c.lost) + c.skipped ≡ c.read + repeats = h.counted in let z : ((c.nth + 1) + c.lost) + c.skipped ≡ c.read + (repeats + 1) = omega arith in z);
      records = h.records;
    })

-- a step that isn't a repeat
no_repeat : (w : World) (repeats t : ℕ) (c : Trace) → t ≡ repeats + 0 → AddsUp w repeats c → AddsUp w t c
no_repeat w repeats t c e h = subst (λ (n : ℕ). AddsUp w n c) (let z : repeats ≡ t = omega arith in z) h

-- an event that is no arrival
say_same : (w : World) (e : Event) (c : Trace) → arrives e ≡ 0 → IsOfRecord w.packets c.read e None → Same w c (say w e None c)
say_same w e c none h = record { read = refl; nth = refl; unrouted = refl; lost = refl; skipped = refl; arrived = (let z : arrives e + arrivals c.past ≡ arrivals c.past = omega arith in z); records = λ k. (h, k) }

release_same : (w : World) (n : ℕ) (c : Trace) → Same w c (release n c)
release_same w n c = record { read = refl; nth = refl; unrouted = refl; lost = refl; skipped = refl; arrived = refl; records = λ h. h }

after_adds : (w : World) (repeats : ℕ) (s : ScenarioStep) (c : Trace) (t : ℕ) → t ≡ repeats + again_by s → AddsUp w repeats c → AddsUp w t (after w s c)
unfolding after
after_adds w repeats (steps.Install n v) c t e h = no_repeat w repeats t _ e (same_adds w repeats c (say w (Install n v) None c) (say_same w (Install n v) c refl tt) h)
after_adds w repeats (steps.Live ns) c t e h = no_repeat w repeats t _ e (record { few = h.few; handed = h.handed; counted = h.counted; records = h.records })
after_adds w repeats (steps.Take k) c t e h = no_repeat w repeats t _ e (take_adds w repeats (next_ones w k c) c (next_from w.packets c.read k) h)
after_adds w repeats (steps.Lose k) c t e h =
    let few : c.read + length (next_ones w k c) ≤ length w.packets = from_few w.packets c.read (next_ones w k c) (next_from w.packets c.read k) h.few in
    let f : (c.nth + c.lost) + c.skipped ≡ c.read + repeats = h.counted in
    no_repeat w repeats t _ e (record {
      few = few;
      handed = h.handed;
      counted = (let z : (c.nth + (c.lost + length (next_ones w k c))) + c.skipped ≡ (c.read + length (next_ones w k c)) + repeats = omega arith in z);
      records = more_read w.packets c.read (c.read + length (next_ones w k c)) c.past (omega arith) h.records;
    })
after_adds w repeats (steps.Again k) c t e h = subst (λ (n : ℕ). AddsUp w n (repeat w k (slice_get (take c.read w.packets) k) c)) (sym e) (repeat_adds w repeats k c (slice_get (take c.read w.packets) k) refl h)
after_adds w repeats (steps.Full n m) c t e h = no_repeat w repeats t _ e (record { few = h.few; handed = h.handed; counted = h.counted; records = h.records })
after_adds w repeats (steps.Hold n) c t e h = no_repeat w repeats t _ e (record { few = h.few; handed = h.handed; counted = h.counted; records = h.records })
after_adds w repeats (steps.Drain n) c t e h = no_repeat w repeats t _ e (same_adds w repeats c (drain_from w n 0 w.cluster.workers (release n c))
    (same_both w c (release n c) (drain_from w n 0 w.cluster.workers (release n c)) (release_same w n c) (drain_same w n 0 w.cluster.workers (release n c))) h)
after_adds w repeats (steps.Restart n) c t e h = no_repeat w repeats t _ e (same_adds w repeats c (say w (Restart n) None (release n c))
    (same_both w c (release n c) (say w (Restart n) None (release n c)) (release_same w n c) (say_same w (Restart n) (release n c) refl tt)) h)
after_adds w repeats (steps.Stop n) c t e h = no_repeat w repeats t _ e (same_adds w repeats c (say w (Restart n) None (release n c))
    (same_both w c (release n c) (say w (Restart n) None (release n c)) (release_same w n c) (say_same w (Restart n) (release n c) refl tt)) h)

run_adds : (w : World) (repeats : ℕ) (ss : List ScenarioStep) (c : Trace) → AddsUp w repeats c → AddsUp w (repeats + agains ss) (run w ss c)
unfolding run
run_adds w repeats [] c h = subst (λ (n : ℕ). AddsUp w n c) (let z : repeats ≡ repeats + 0 = omega arith in z) h
run_adds w repeats (s ∷ ss) c h =
    let e : (repeats + again_by s) + agains ss ≡ repeats + (again_by s + agains ss) = omega arith in
    subst (λ (n : ℕ). AddsUp w n (run w ss (after w s c))) e (run_adds w (repeats + again_by s) ss (after w s c) (after_adds w repeats s c (repeats + again_by s) refl h))

pub traces_add_up : TracesAddUp
traces_add_up w ss nodes =
    let e : 0 + agains ss ≡ agains ss = omega arith in (
      run_told w ss (start nodes) tt,
      subst (λ (n : ℕ). AddsUp w n (run w ss (start nodes))) e (run_adds w 0 ss (start nodes) (record { few = omega arith; handed = refl; counted = refl; records = tt })),
    )
