-- Outcomes counted one by one.
use Rattle.std.proofs.Common.{◌≡◌, ℕ, ◌+◌, ◌-◌, ◌≤◌, Bool, true, false, List, [], ◌∷◌, ◌++◌, reverse, get_or, Result, Ok, Err, refl, sym, ap, ◌∙◌, arith}
use Rattle.std.specs.Prelude.{if◌then◌else◌, slice_set, OnOk}
use Rattle.std.proofs.lemmas.List.{reverse-append, map-append}
use Rattle.cluster_node.specs.declared.events.LogEntry.{LogEntry}
use Rattle.cluster_node.specs.declared.outcomes.Outcome.{Outcome}
use Rattle.cluster_node.specs.declared.outcomes.Outcome.TheVariants.{Dropped, Restarted}
use Rattle.cluster_node.specs.declared.outcomes.Cause.{Cause}
use Rattle.cluster_node.specs.declared.outcomes.Cause.TheVariants.{NotIpv4, Truncated, BadHeader, BadChecksum, Fragment, NotTcpUdp, BadTransport, TooLarge, NoService, NoBackend, NoVersion, RingsFull, LostAtRestart}
use Rattle.cluster_core.specs.OutcomeCounts.{number, at_serving, is_arrival, is_forward, is_refused, lost_all, how_many, drops, drops_all, drop_counts}
use Rattle.cluster_core.specs.Totals.{went, came_all, went_all}
use Rattle.event_trace.specs.declared.counts.Counts.{Counts}
use Rattle.cluster_core.specs.Histories.{outcomes_of}
use Rattle.event_trace.specs.Counting.{CountsAre}
use Rattle.cluster_core.specs.Deployed.{IsBalanced}

-- a count with so many more, at a place
abbrev pub added : List ℕ → ℕ → ℕ → List ℕ
added ns k m = slice_set ns k (get_or ns k 0 + m)

pub drop_counted : (k : ℕ) (c : Cause) (os : List Outcome) → added (drop_counts os) (number c - 1) 1 ≡ drop_counts (Dropped k c ∷ os)
drop_counted k NotIpv4 os = grind arith
drop_counted k Truncated os = grind arith
drop_counted k BadHeader os = grind arith
drop_counted k BadChecksum os = grind arith
drop_counted k Fragment os = grind arith
drop_counted k NotTcpUdp os = grind arith
drop_counted k BadTransport os = grind arith
drop_counted k TooLarge os = grind arith
drop_counted k NoService os = grind arith
drop_counted k NoBackend os = grind arith
drop_counted k NoVersion os =
    ap (λ (m : ℕ). drops_all 1 os ∷ drops_all 2 os ∷ drops_all 3 os ∷ drops_all 4 os ∷ drops_all 5 os ∷ drops_all 6 os ∷ drops_all 7 os ∷ drops_all 8 os ∷ drops_all 9 os ∷ drops_all 10 os ∷ m ∷ drops_all 12 os ∷ (drops_all 13 os + lost_all os) ∷ []) (let e : drops_all 11 os + 1 ≡ 1 + drops_all 11 os = omega arith in e)
    ∙ ap (λ (m : ℕ). drops_all 1 os ∷ drops_all 2 os ∷ drops_all 3 os ∷ drops_all 4 os ∷ drops_all 5 os ∷ drops_all 6 os ∷ drops_all 7 os ∷ drops_all 8 os ∷ drops_all 9 os ∷ drops_all 10 os ∷ (1 + drops_all 11 os) ∷ drops_all 12 os ∷ (drops_all 13 os + m) ∷ []) (let e : lost_all os ≡ 0 + lost_all os = omega arith in e)
drop_counted k RingsFull os = grind arith
drop_counted k LostAtRestart os = grind arith

pub lost_counted : (l : ℕ) (os : List Outcome) → added (drop_counts os) 12 l ≡ drop_counts (Restarted l ∷ os)
lost_counted l os = grind arith

pub dropped_at : (os : List Outcome) (k : ℕ) (c : Cause) (ns ms : List ℕ) (at : ℕ) → ns ≡ drop_counts os → at + 1 ≡ number c → ms ≡ added ns at 1 → ms ≡ drop_counts (Dropped k c ∷ os)
dropped_at os k c ns ms at e f g = g ∙ ap (λ (l : List ℕ). added l at 1) e ∙ ap (λ (n : ℕ). added (drop_counts os) n 1) (let h : at ≡ number c - 1 = omega (arith, f) in h) ∙ drop_counted k c os

pub then_ok : {E : Type 0} (r : Result (Unit {0}) E) (P Q : Type 0) → (P → Q) → OnOk r P → OnOk r Q
then_ok (Ok u) P Q f h = f h
then_ok (Err x) P Q f h = tt

abbrev one_if : Bool → ℕ
one_if b = if b then 1 else 0

-- a packet was dropped when it was served, or when it arrived
pub served_drop : (os : List Outcome) (k : ℕ) (c : Cause) (x : Counts) (ms : List ℕ) (n : ℕ) → CountsAre os x → at_serving c ≡ true → ms ≡ drop_counts (Dropped k c ∷ os) → n ≡ x.taken + 1 → CountsAre (Dropped k c ∷ os) (record { received = x.received; forwarded = x.forwarded; dropped = ms; placed = x.placed; taken = n; refused = x.refused })
served_drop os k c x ms n h e f g =
    let one : went (Dropped k c) ≡ 1 = ap (λ (b : Bool). one_if b) e in
    record {
      received = h.received ∙ ap (λ (b : Bool). if (if b then false else true) then 1 + how_many (λ o. is_arrival o) os else how_many (λ o. is_arrival o) os) (sym e);
      forwarded = h.forwarded;
      dropped = f;
      placed = (let z : x.placed ≡ 0 + came_all os = omega (arith, h.placed) in z);
      taken = (let z : n ≡ went (Dropped k c) + went_all os = omega (arith, one, g, h.taken) in z);
      refused = h.refused;
    }

pub arrived_drop : (os : List Outcome) (k : ℕ) (c : Cause) (x : Counts) (ms : List ℕ) (n : ℕ) → CountsAre os x → at_serving c ≡ false → ms ≡ drop_counts (Dropped k c ∷ os) → n ≡ x.received + 1 → CountsAre (Dropped k c ∷ os) (record { received = n; forwarded = x.forwarded; dropped = ms; placed = x.placed; taken = x.taken; refused = x.refused })
arrived_drop os k c x ms n h e f g =
    let none : went (Dropped k c) ≡ 0 = ap (λ (b : Bool). one_if b) e in
    record {
      received = (let z : n ≡ 1 + how_many (λ o. is_arrival o) os = omega (arith, g, h.received) in z) ∙ ap (λ (b : Bool). if (if b then false else true) then 1 + how_many (λ o. is_arrival o) os else how_many (λ o. is_arrival o) os) (sym e);
      forwarded = h.forwarded;
      dropped = f;
      placed = (let z : x.placed ≡ 0 + came_all os = omega (arith, h.placed) in z);
      taken = (let z : x.taken ≡ went (Dropped k c) + went_all os = omega (arith, none, h.taken) in z);
      refused = h.refused;
    }

-- those of two lists behind one another
many_both : (p : Outcome → Bool) (a b : List Outcome) → how_many p (a ++ b) ≡ how_many p a + how_many p b
many_both p [] b = omega arith
many_both p (o ∷ a) b = go (p o) (many_both p a b)
  where
    go : (t : Bool) → how_many p (a ++ b) ≡ how_many p a + how_many p b → (if t then 1 + how_many p (a ++ b) else how_many p (a ++ b)) ≡ (if t then 1 + how_many p a else how_many p a) + how_many p b
    go true h = omega arith
    go false h = omega arith

came_both : (a b : List Outcome) → came_all (a ++ b) ≡ came_all a + came_all b
came_both [] b = omega arith
came_both (o ∷ a) b = omega (arith, came_both a b)

went_both : (a b : List Outcome) → went_all (a ++ b) ≡ went_all a + went_all b
went_both [] b = omega arith
went_both (o ∷ a) b = omega (arith, went_both a b)

lost_both : (a b : List Outcome) → lost_all (a ++ b) ≡ lost_all a + lost_all b
lost_both [] b = omega arith
lost_both (o ∷ a) b = omega (arith, lost_both a b)

-- those of a list turned round
pub many_turned : (p : Outcome → Bool) (os : List Outcome) → how_many p (reverse os) ≡ how_many p os
many_turned p [] = refl
many_turned p (o ∷ os) = ap (how_many p) (reverse-append (o ∷ []) os) ∙ many_both p (reverse os) (o ∷ []) ∙ go (p o) (many_turned p os)
  where
    go : (t : Bool) → how_many p (reverse os) ≡ how_many p os → how_many p (reverse os) + (if t then 1 + 0 else 0) ≡ (if t then 1 + how_many p os else how_many p os)
    go true h = omega arith
    go false h = omega arith

came_turned : (os : List Outcome) → came_all (reverse os) ≡ came_all os
came_turned [] = refl
came_turned (o ∷ os) = ap came_all (reverse-append (o ∷ []) os) ∙ came_both (reverse os) (o ∷ []) ∙ omega (arith, came_turned os)

went_turned : (os : List Outcome) → went_all (reverse os) ≡ went_all os
went_turned [] = refl
went_turned (o ∷ os) = ap went_all (reverse-append (o ∷ []) os) ∙ went_both (reverse os) (o ∷ []) ∙ omega (arith, went_turned os)

lost_turned : (os : List Outcome) → lost_all (reverse os) ≡ lost_all os
lost_turned [] = refl
lost_turned (o ∷ os) = ap lost_all (reverse-append (o ∷ []) os) ∙ lost_both (reverse os) (o ∷ []) ∙ omega (arith, lost_turned os)

drops_turned : (os : List Outcome) → drop_counts os ≡ drop_counts (reverse os)
drops_turned os =
    let t : (k : ℕ) → drops_all k (reverse os) ≡ drops_all k os = λ k. many_turned (λ o. drops k o) os in
    rw (t 1, t 2, t 3, t 4, t 5, t 6, t 7, t 8, t 9, t 10, t 11, t 12, t 13, lost_turned os) refl

pub counted_turned : (os : List Outcome) (c : Counts) → CountsAre os c → CountsAre (reverse os) c
counted_turned os c h = record {
  received = h.received ∙ sym (many_turned (λ o. is_arrival o) os);
  forwarded = h.forwarded ∙ sym (many_turned (λ o. is_forward o) os);
  dropped = h.dropped ∙ drops_turned os;
  placed = h.placed ∙ sym (came_turned os);
  taken = h.taken ∙ sym (went_turned os);
  refused = h.refused ∙ sym (many_turned (λ o. is_refused o) os);
}

-- the outcomes of a history are those of its record turned round
pub outcomes_turned : (past : List LogEntry) → outcomes_of (reverse past) ≡ reverse (outcomes_of past)
outcomes_turned [] = refl
outcomes_turned (s ∷ past) =
    ap outcomes_of (reverse-append (s ∷ []) past) ∙ map-append (λ (x : LogEntry). x.outcome) (reverse past) (s ∷ []) ∙ ap (λ (l : List Outcome). l ++ s.outcome ∷ []) (outcomes_turned past) ∙ sym (reverse-append (s.outcome ∷ []) (outcomes_of past))

pub balanced_record : (past : List LogEntry) → IsBalanced (reverse past) → went_all (outcomes_of past) ≤ came_all (outcomes_of past)
balanced_record past h =
    let o : outcomes_of (reverse past) ≡ reverse (outcomes_of past) = outcomes_turned past in
    let w : went_all (outcomes_of (reverse past)) ≡ went_all (outcomes_of past) = ap went_all o ∙ went_turned (outcomes_of past) in
    let c : came_all (outcomes_of (reverse past)) ≡ came_all (outcomes_of past) = ap came_all o ∙ came_turned (outcomes_of past) in
    omega (arith, h)
