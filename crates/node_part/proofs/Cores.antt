-- A core of which a part is played.
use Rattle.std.proofs.Common.{◌≡◌, ℕ, Bool, true, false, List, ◌∷◌, Option, Some, None, refl, sym, ap, ◌∙◌, subst}
use Rattle.std.specs.Prelude.{◌&&◌, nat_lt, if◌then◌else◌}
use Rattle.std.proofs.lemmas.Bool.{false≢true}
use Rattle.cluster_node.specs.declared.packets.Packet.{Packet}
use Rattle.cluster_node.specs.declared.events.Event.{Event}
use Rattle.cluster_node.specs.declared.events.LogEntry.{LogEntry}
use Rattle.cluster_node.specs.declared.outcomes.Outcome.{Outcome}
use Rattle.cluster_node.specs.declared.outcomes.Outcome.TheVariants.{Placed, Refused}
use Rattle.cluster_node.specs.declared.outcomes.Reason.TheVariants.{NoNode}
use Rattle.cluster_node.specs.declared.outcomes.Passed.{Passed}
use Rattle.cluster_node.specs.declared.outcomes.Passed.TheVariants.{Unplaced, Through}
use Rattle.cluster_node.specs.Book.{Line}
use Rattle.cluster_node.specs.Record.{newest_of, lines_of}
use Rattle.cluster_node.specs.Records.{Judge, node_of, said, AreTold, with_arrival, with_told}
use Rattle.cluster_core.specs.Cluster.{Cluster, newest_on, waiting_on, left_of as waiting_by}
use Rattle.node_part.specs.Parts.{leaves_out, of_part, part_judge, part_of, LeavesOthers}
use Rattle.node_part.proofs.Parts.{kept_of, left_of, own_node, left_outcome, kept_outcome, left_newest, left_lines}

-- the record of the part with one more event of it
pub said_of : (only : Option ℕ) (judge : Judge) (past : List LogEntry) (e : Event) (p : Option Packet) → leaves_out only (node_of e) ≡ false
    → of_part only (said (part_judge only judge) past e p ∷ past) ≡ said judge (of_part only past) e p ∷ of_part only past
said_of only judge past e p h =
    kept_of only (said (part_judge only judge) past e p) past h
    ∙ ap (λ (o : Outcome). record { event = e; packet = p; outcome = o } ∷ of_part only past) (kept_outcome only judge past e p h)

-- an event of the part, which is no other
others_kept : (only : Option ℕ) (s : LogEntry) (past : List LogEntry) → leaves_out only (node_of s.event) ≡ false → LeavesOthers only past → LeavesOthers only (s ∷ past)
others_kept only s past h k = ((λ l. absurd (false≢true (sym h ∙ l))), k)

-- one event
pub stepped : (only : Option ℕ) (judge : Judge) (past : List LogEntry) (e : Event) (p : Option Packet) (Stands : List LogEntry → Type 0) (o : Outcome) → leaves_out only (node_of e) ≡ false → LeavesOthers only past
    → (o ≡ judge (of_part only past) e p) × Stands (said judge (of_part only past) e p ∷ of_part only past)
    → (o ≡ part_judge only judge past e p) × (LeavesOthers only (said (part_judge only judge) past e p ∷ past) × Stands (of_part only (said (part_judge only judge) past e p ∷ past)))
stepped only judge past e p Stands o h k goes =
    (goes.0 ∙ sym (kept_outcome only judge past e p h), (others_kept only (said (part_judge only judge) past e p) past h k, subst Stands (sym (said_of only judge past e p h)) goes.1))

pub left : (only : Option ℕ) (judge : Judge) (past : List LogEntry) (e : Event) (p : Option Packet) (Stands : List LogEntry → Type 0) → leaves_out only (node_of e) ≡ true → LeavesOthers only past → Stands (of_part only past)
    → (Refused NoNode ≡ part_judge only judge past e p) × (LeavesOthers only (said (part_judge only judge) past e p ∷ past) × Stands (of_part only (said (part_judge only judge) past e p ∷ past)))
left only judge past e p Stands h k st =
    let out = left_outcome only judge past e p h in
    (sym out, (((λ l. out), k), subst Stands (sym (left_of only (said (part_judge only judge) past e p) past h)) st))

-- a packet, and its serving where it was placed
pub passed : (only : Option ℕ) (judge : Judge) (past : List LogEntry) (e : Event) (p : Packet) (serving : ℕ → Event) (Stands : List LogEntry → Type 0) (q : Passed) → leaves_out only (node_of e) ≡ false → ((w : ℕ) → leaves_out only (node_of (serving w)) ≡ false) → LeavesOthers only past
    → AreTold judge (of_part only past) e p serving q × Stands (with_told (of_part only past) e p serving q)
    → AreTold (part_judge only judge) past e p serving q × (LeavesOthers only (with_told past e p serving q) × Stands (of_part only (with_told past e p serving q)))
passed only judge past e p serving Stands (Unplaced o) h g k goes =
    let s : LogEntry = record { event = e; packet = Some p; outcome = o } in
    ((goes.0.0, goes.0.1 ∙ sym (kept_outcome only judge past e (Some p) h)), (others_kept only s past h k, subst Stands (sym (kept_of only s past h)) goes.1))
passed only judge past e p serving Stands (Through w floor o) h g k goes =
    let s : LogEntry = record { event = e; packet = Some p; outcome = Placed w floor } in
    let t : LogEntry = record { event = serving w; packet = None; outcome = o } in
    let both = kept_of only t (s ∷ past) (g w) ∙ ap (λ (l : List LogEntry). t ∷ l) (kept_of only s past h) in
    let second = goes.0.1 ∙ ap (λ (l : List LogEntry). judge l (serving w) None) (sym (said_of only judge past e (Some p) h))
    ∙ sym (kept_outcome only judge (with_arrival (part_judge only judge) past e p) (serving w) None (g w)) in
    ((goes.0.0 ∙ sym (kept_outcome only judge past e (Some p) h), second), (others_kept only t (s ∷ past) (g w) (others_kept only s past h k), subst Stands (sym both) goes.1))

-- a packet of a node that is left out
pub left_passed : (only : Option ℕ) (judge : Judge) (past : List LogEntry) (e : Event) (p : Packet) (serving : ℕ → Event) (Stands : List LogEntry → Type 0) → leaves_out only (node_of e) ≡ true → LeavesOthers only past → Stands (of_part only past)
    → AreTold (part_judge only judge) past e p serving (Unplaced (Refused NoNode)) × (LeavesOthers only (with_told past e p serving (Unplaced (Refused NoNode))) × Stands (of_part only (with_told past e p serving (Unplaced (Refused NoNode)))))
left_passed only judge past e p serving Stands h k st =
    let s : LogEntry = record { event = e; packet = Some p; outcome = Refused NoNode } in
    ((refl, sym (left_outcome only judge past e (Some p) h)), (((λ l. refl), k), subst Stands (sym (left_of only s past h)) st))

-- the newest version of a node of the part
pub kept_newest : (only : Option ℕ) (k : Cluster) (n : ℕ) (past : List LogEntry) → leaves_out only n ≡ false → newest_on (part_of only k) n past ≡ newest_on k n (of_part only past)
unfolding newest_on
kept_newest only k n past h = ap (λ (l : List LogEntry). if nat_lt n k.nodes then newest_of l else 0) (sym (own_node only n past h))

pub left_newest_on : (only : Option ℕ) (k : Cluster) (n : ℕ) (past : List LogEntry) → leaves_out only n ≡ true → LeavesOthers only past → newest_on (part_of only k) n past ≡ 0
unfolding newest_on
left_newest_on only k n past h others = ap (λ (v : ℕ). if nat_lt n k.nodes then v else 0) (left_newest only n past h others) ∙ go (nat_lt n k.nodes)
  where
    go : (b : Bool) → ◌≡◌ {A = ℕ} (if b then 0 else 0) 0
    go true = refl
    go false = refl

-- what waits for a worker of the part
pub kept_waiting : (only : Option ℕ) (k : Cluster) (n w : ℕ) (past : List LogEntry) → leaves_out only n ≡ false → waiting_on (part_of only k) n w past ≡ waiting_on k n w (of_part only past)
unfolding waiting_on
kept_waiting only k n w past h = ap (λ (l : List LogEntry). if nat_lt n k.nodes && nat_lt w k.workers then waiting_by (lines_of w l) else 0) (sym (own_node only n past h))

pub left_waiting : (only : Option ℕ) (k : Cluster) (n w : ℕ) (past : List LogEntry) → leaves_out only n ≡ true → LeavesOthers only past → waiting_on (part_of only k) n w past ≡ 0
unfolding waiting_on
left_waiting only k n w past h others = ap (λ (l : List Line). if nat_lt n k.nodes && nat_lt w k.workers then waiting_by l else 0) (left_lines only n w past h others) ∙ go (nat_lt n k.nodes && nat_lt w k.workers)
  where
    go : (b : Bool) → ◌≡◌ {A = ℕ} (if b then 0 else 0) 0
    go true = refl
    go false = refl
