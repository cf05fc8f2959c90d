-- What a record has of a part, event by event.
use Rattle.std.proofs.Common.{◌≡◌, ℕ, suc, ◌≤◌, ◌<◌, Bool, true, false, List, [], ◌∷◌, length, Option, Some, None, refl, sym, ap, ◌∙◌, subst, arith}
use Rattle.std.specs.Prelude.{◌==◌, if◌then◌else◌}
use Rattle.std.proofs.lemmas.Bool.{eqb-true, false≢true, not-true, not-false}
use Rattle.cluster_node.specs.declared.packets.Packet.{Packet}
use Rattle.cluster_node.specs.declared.packets.Packet.TheVariants.{Good, Bad}
use Rattle.cluster_node.specs.declared.events.Event.{Event}
use Rattle.cluster_node.specs.declared.events.Event.TheVariants.{Install, Arrive, Serve, Restart}
use Rattle.cluster_node.specs.declared.events.LogEntry.{LogEntry}
use Rattle.cluster_node.specs.declared.outcomes.Outcome.{Outcome}
use Rattle.cluster_node.specs.declared.outcomes.Outcome.TheVariants.{Refused}
use Rattle.cluster_node.specs.declared.outcomes.Reason.TheVariants.{NoNode}
use Rattle.cluster_node.specs.Book.{Line}
use Rattle.cluster_node.specs.Record.{newest_by, newest_of, line_by, lines_of}
use Rattle.cluster_node.specs.Records.{Judge, Judged, node_of, of_node}
use Rattle.node_part.specs.Parts.{leaves_out, of_part, part_judge, LeavesOthers}

pub none_of : (only : Option ℕ) → of_part only [] ≡ []
none_of None = refl
none_of (Some n) = refl

-- an event of the part
pub kept_of : (only : Option ℕ) (s : LogEntry) (past : List LogEntry) → leaves_out only (node_of s.event) ≡ false → of_part only (s ∷ past) ≡ s ∷ of_part only past
kept_of None s past h = refl
kept_of (Some n) s past h = ap (λ (b : Bool). if b then s ∷ of_node n past else of_node n past) (not-false (node_of s.event == n) h)

-- an event that is left out
pub left_of : (only : Option ℕ) (s : LogEntry) (past : List LogEntry) → leaves_out only (node_of s.event) ≡ true → of_part only (s ∷ past) ≡ of_part only past
left_of None s past h = absurd (false≢true h)
left_of (Some n) s past h = ap (λ (b : Bool). if b then s ∷ of_node n past else of_node n past) (not-true (node_of s.event == n) h)

of_node_twice : (n : ℕ) (past : List LogEntry) → of_node n (of_node n past) ≡ of_node n past
of_node_twice n [] = refl
of_node_twice n (s ∷ past) = go (node_of s.event == n) refl (of_node_twice n past)
  where
    go : (b : Bool) → (node_of s.event == n) ≡ b → of_node n (of_node n past) ≡ of_node n past → of_node n (if b then s ∷ of_node n past else of_node n past) ≡ (if b then s ∷ of_node n past else of_node n past)
    go true h more = ap (λ (c : Bool). if c then s ∷ of_node n (of_node n past) else of_node n (of_node n past)) h ∙ ap (λ (l : List LogEntry). s ∷ l) more
    go false h more = more

-- a node that isn't left out has all its events in the part
pub own_node : (only : Option ℕ) (n : ℕ) (past : List LogEntry) → leaves_out only n ≡ false → of_node n (of_part only past) ≡ of_node n past
own_node None n past h = refl
own_node (Some m) n past h =
    let is : n ≡ m = eqb-true n m (not-false (n == m) h) in
    subst (λ (j : ℕ). of_node n (of_node j past) ≡ of_node n past) is (of_node_twice n past)

node_le : (n : ℕ) (past : List LogEntry) → length (of_node n past) ≤ length past
node_le n [] = omega arith
node_le n (s ∷ past) = go (node_of s.event == n) (node_le n past)
  where
    go : (b : Bool) → length (of_node n past) ≤ length past → length (if b then s ∷ of_node n past else of_node n past) ≤ suc (length past)
    go true h = omega arith
    go false h = omega arith

pub part_le : (only : Option ℕ) (past : List LogEntry) → length (of_part only past) ≤ length past
part_le None past = omega arith
part_le (Some n) past = node_le n past

pub part_few : (only : Option ℕ) (past : List LogEntry) (most : ℕ) → length past < most → length (of_part only past) < most
part_few only past most few = omega (arith, part_le only past)

-- the judge of the part
pub left_outcome : (only : Option ℕ) (judge : Judge) (past : List LogEntry) (e : Event) (p : Option Packet) → leaves_out only (node_of e) ≡ true → part_judge only judge past e p ≡ Refused NoNode
left_outcome only judge past e p h = ap (λ (b : Bool). if b then Refused NoNode else judge (of_part only past) e p) h

pub kept_outcome : (only : Option ℕ) (judge : Judge) (past : List LogEntry) (e : Event) (p : Option Packet) → leaves_out only (node_of e) ≡ false → part_judge only judge past e p ≡ judge (of_part only past) e p
kept_outcome only judge past e p h = ap (λ (b : Bool). if b then Refused NoNode else judge (of_part only past) e p) h

-- by the judge of the part all others are left out
pub others_judged : (only : Option ℕ) (judge : Judge) (past : List LogEntry) → Judged (part_judge only judge) past → LeavesOthers only past
others_judged only judge [] j = tt
others_judged only judge (s ∷ past) j = ((λ h. j.0 ∙ left_outcome only judge past s.event s.packet h), others_judged only judge past j.1)

-- and the part's events are judged by the whole's judge
pub part_judged : (only : Option ℕ) (judge : Judge) (past : List LogEntry) → Judged (part_judge only judge) past → Judged judge (of_part only past)
part_judged only judge [] j = subst (λ (l : List LogEntry). Judged judge l) (sym (none_of only)) tt
part_judged only judge (s ∷ past) j = go (leaves_out only (node_of s.event)) refl (part_judged only judge past j.1)
  where
    go : (b : Bool) → leaves_out only (node_of s.event) ≡ b → Judged judge (of_part only past) → Judged judge (of_part only (s ∷ past))
    go true h k = subst (λ (l : List LogEntry). Judged judge l) (sym (left_of only s past h)) k
    go false h k = subst (λ (l : List LogEntry). Judged judge l) (sym (kept_of only s past h)) (j.0 ∙ kept_outcome only judge past s.event s.packet h, k)

-- a refused event installs nothing, and is no line
newest_refused : (e : Event) (newest : ℕ) → newest_by e (Refused NoNode) newest ≡ newest
newest_refused (Install n v) newest = refl
newest_refused (Arrive n k marks) newest = refl
newest_refused (Serve n w v r) newest = refl
newest_refused (Restart n) newest = refl

line_refused : (w : ℕ) (e : Event) (p : Option Packet) (ls : List Line) → line_by w e p (Refused NoNode) ls ≡ ls
line_refused w (Install n v) p ls = refl
line_refused w (Arrive n k marks) None ls = refl
line_refused w (Arrive n k marks) (Some (Bad c)) ls = refl
line_refused w (Arrive n k marks) (Some (Good x l t)) ls = refl
line_refused w (Serve n u v r) p ls = go (u == w)
  where
    go : (b : Bool) → (if b then ls else ls) ≡ ls
    go true = refl
    go false = refl
line_refused w (Restart n) p ls = refl

-- so a node that is left out has no version
pub left_newest : (only : Option ℕ) (n : ℕ) (past : List LogEntry) → leaves_out only n ≡ true → LeavesOthers only past → newest_of (of_node n past) ≡ 0
left_newest only n [] h k = refl
left_newest only n (s ∷ past) h k = go (node_of s.event == n) refl (left_newest only n past h k.1)
  where
    go : (b : Bool) → (node_of s.event == n) ≡ b → newest_of (of_node n past) ≡ 0 → newest_of (if b then s ∷ of_node n past else of_node n past) ≡ 0
    go true is more =
        let out : s.outcome ≡ Refused NoNode = k.0 (ap (leaves_out only) (eqb-true (node_of s.event) n is) ∙ h) in
        ap (λ (o : Outcome). newest_by s.event o (newest_of (of_node n past))) out ∙ newest_refused s.event (newest_of (of_node n past)) ∙ more
    go false is more = more

-- and its workers have no lines
pub left_lines : (only : Option ℕ) (n w : ℕ) (past : List LogEntry) → leaves_out only n ≡ true → LeavesOthers only past → lines_of w (of_node n past) ≡ []
left_lines only n w [] h k = refl
left_lines only n w (s ∷ past) h k = go (node_of s.event == n) refl (left_lines only n w past h k.1)
  where
    go : (b : Bool) → (node_of s.event == n) ≡ b → lines_of w (of_node n past) ≡ [] → lines_of w (if b then s ∷ of_node n past else of_node n past) ≡ []
    go true is more =
        let out : s.outcome ≡ Refused NoNode = k.0 (ap (leaves_out only) (eqb-true (node_of s.event) n is) ∙ h) in
        ap (λ (o : Outcome). line_by w s.event s.packet o (lines_of w (of_node n past))) out ∙ line_refused w s.event s.packet (lines_of w (of_node n past)) ∙ more
    go false is more = more
