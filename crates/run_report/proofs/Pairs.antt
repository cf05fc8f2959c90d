-- The splits of a record are all pairs of sends of one flow to different backends.
use Rattle.std.proofs.Common.{◌≡◌, ℕ, zero, suc, ◌+◌, ◌<◌, ◌≤◌, ◌⊎◌, get_or, Bool, true, false, List, [], ◌∷◌, ◌++◌, length, map, Option, Some, None, refl, sym, ap, ◌∙◌, subst, arith, inl, inr, ⊎_elim}
use Rattle.std.specs.Prelude.{◌==◌, if◌then◌else◌, is_some}
use Rattle.std.specs.List.{All, Contains, IsDistinct}
use Rattle.std.specs.List.Sorted.{IsStrictlyIncreasing}
use Rattle.std.proofs.lemmas.Bool.{cases_eq, cases_order, cases_lt, cond-true, cond-false, eq-eqb, ne_eqb, false≢true, false_from_ne_true}
use Rattle.std.proofs.lemmas.Option.{same_Some, none-some}
use Rattle.std.proofs.lemmas.List.{append-nil, map-append, length-append, get_or_append_left}
use Rattle.std.proofs.Math.Seq.{get_or-append_seam}
use Rattle.std.proofs.lemmas.Map.Keys.{IsDistinct-cons}
use Rattle.std.proofs.lemmas.List.Elements.{All-nil, All-cons, All-append, All-weaker, All-map, All-contains_itself, recursion_from_All, Contains-append_left, Contains-append_right}
use Rattle.five_tuple.specs.declared.Flow.{Flow}
use Rattle.connection_table.specs.Touches.{same_flow}
use Rattle.connection_table.proofs.Standing.{same_flow-true, same_flow-refl}
use Rattle.selection.specs.Readied.{same_backend}
use Rattle.selection.proofs.Among.{same_is, is_same}
use Rattle.pool_versions.specs.declared.backend.Backend.{Backend}
use Rattle.cluster_node.specs.declared.events.Event.{Event}
use Rattle.cluster_node.specs.declared.events.LogEntry.{LogEntry}
use Rattle.cluster_node.specs.declared.outcomes.Outcome.{Outcome}
use Rattle.cluster_node.specs.declared.outcomes.Outcome.TheVariants.{Installed, Placed, Forward, Dropped, Restarted, Refused}
use Rattle.run_report.specs.declared.sending.Sending.{Sending}
use Rattle.run_report.specs.declared.sending.Split.{Split}
use Rattle.run_report.specs.Splits.{version_of, sent_by, sent_at, last_after, last_sent, split_after, split_by, splits_of, flows_with, flows_of}
use Rattle.run_report.specs.Pairs.{IsSplit, AreSplits, WasSent, AreFlows}

-- ---- the sends of a record

pub sent_number : (k : ℕ) (e : Event) (o : Outcome) (q : Sending) → sent_by k e o ≡ Some q → q.number ≡ k
sent_number k e Installed q h = absurd cc
sent_number k e (Placed w f) q h = absurd cc
sent_number k e (Forward n w p x b v) q h = sym (ap (λ (z : Sending). z.number) (same_Some (record { number = k; flow = x; version = version_of e; backend = b; origin = v }) q h))
sent_number k e (Dropped p c) q h = absurd cc
sent_number k e (Restarted l) q h = absurd cc
sent_number k e (Refused r) q h = absurd cc

abbrev newest : LogEntry → List LogEntry → Option Sending
newest s past = sent_by (length past) s.event s.outcome

pub at_head : (s : LogEntry) (past : List LogEntry) (k : ℕ) → k ≡ length past → sent_at (s ∷ past) k ≡ newest s past
at_head s past k e = cond-true (k == length past) (newest s past) (sent_at past k) (eq-eqb k (length past) e)

pub at_rest : (s : LogEntry) (past : List LogEntry) (k : ℕ) → (k ≡ length past → ⊥) → sent_at (s ∷ past) k ≡ sent_at past k
at_rest s past k ne = cond-false (k == length past) (newest s past) (sent_at past k) (ne_eqb k (length past) ne)

pub at_below : (past : List LogEntry) (k : ℕ) (q : Sending) → sent_at past k ≡ Some q → k < length past
at_below [] k q h = absurd cc
at_below (s ∷ past) k q h = ⊎_elim
    (λ (e : k ≡ length past). let g : k < length (s ∷ past) = omega arith in g)
    (λ (ne : k ≡ length past → ⊥). let low : k < length past = at_below past k q (sym (at_rest s past k ne) ∙ h) in let g : k < length (s ∷ past) = omega arith in g)
    (cases_eq k (length past))

at_number : (past : List LogEntry) (k : ℕ) (q : Sending) → sent_at past k ≡ Some q → q.number ≡ k
at_number [] k q h = absurd cc
at_number (s ∷ past) k q h = ⊎_elim
    (λ (e : k ≡ length past). sent_number (length past) s.event s.outcome q (sym (at_head s past k e) ∙ h) ∙ sym e)
    (λ (ne : k ≡ length past → ⊥). at_number past k q (sym (at_rest s past k ne) ∙ h))
    (cases_eq k (length past))

-- ---- the last send of a flow

record IsLast (past : List LogEntry) (x : Flow) (f : Sending) : Type 0 where
  there : sent_at past f.number ≡ Some f
  flow : f.flow ≡ x
  after : (k : ℕ) (q : Sending) → f.number < k → sent_at past k ≡ Some q → q.flow ≡ x → ⊥

abbrev LastIs : List LogEntry → Flow → Option Sending → Type 0
LastIs past x None = (k : ℕ) (q : Sending) → sent_at past k ≡ Some q → q.flow ≡ x → ⊥
LastIs past x (Some f) = IsLast past x f

older_last : (s : LogEntry) (past : List LogEntry) (x : Flow) → ((q : Sending) → newest s past ≡ Some q → q.flow ≡ x → ⊥) → (o : Option Sending) → LastIs past x o → LastIs (s ∷ past) x o
older_last s past x nothing None h = λ k q a f. ⊎_elim
    (λ (e : k ≡ length past). nothing q (sym (at_head s past k e) ∙ a) f)
    (λ (ne : k ≡ length past → ⊥). h k q (sym (at_rest s past k ne) ∙ a) f)
    (cases_eq k (length past))
older_last s past x nothing (Some l) h = record {
  there = at_rest s past l.number (λ e. let low : l.number < length past = at_below past l.number l h.there in absurd (omega arith)) ∙ h.there;
  flow = h.flow;
  after = λ k q low a f. ⊎_elim
      (λ (e : k ≡ length past). nothing q (sym (at_head s past k e) ∙ a) f)
      (λ (ne : k ≡ length past → ⊥). h.after k q low (sym (at_rest s past k ne) ∙ a) f)
      (cases_eq k (length past));
}

newest_last : (s : LogEntry) (past : List LogEntry) (x : Flow) (t : Sending) → newest s past ≡ Some t → t.flow ≡ x → IsLast (s ∷ past) x t
newest_last s past x t e f =
    let at : t.number ≡ length past = sent_number (length past) s.event s.outcome t e in
    record {
      there = at_head s past t.number at ∙ e;
      flow = f;
      after = λ k q low a g. let below : k < length (s ∷ past) = at_below (s ∷ past) k q a in absurd (omega arith);
    }

last_more : (s : LogEntry) (past : List LogEntry) (x : Flow) (before : Option Sending) → LastIs past x before → (o : Option Sending) → newest s past ≡ o → LastIs (s ∷ past) x (last_after x o before)
last_more s past x before h None e = older_last s past x (λ q a f. none-some q (sym e ∙ a)) before h
last_more s past x before h (Some t) e = go (same_flow t.flow x) refl
  where
    go : (b : Bool) → same_flow t.flow x ≡ b → LastIs (s ∷ past) x (if b then Some t else before)
    go true f = newest_last s past x t e (same_flow-true t.flow x f)
    go false f = older_last s past x (λ q a g. false≢true (sym f ∙ ap (λ (y : Flow). same_flow y x) (ap (λ (z : Sending). z.flow) (same_Some t q (sym e ∙ a)) ∙ g) ∙ same_flow-refl x)) before h

last_is : (past : List LogEntry) (x : Flow) → LastIs past x (last_sent past x)
last_is [] x = λ k q a f. absurd cc
last_is (s ∷ past) x = last_more s past x (last_sent past x) (last_is past x) (newest s past) refl

only_last : (past : List LogEntry) (x : Flow) (f : Sending) → IsLast past x f → (o : Option Sending) → LastIs past x o → o ≡ Some f
only_last past x f l None h = absurd (h f.number f l.there l.flow)
only_last past x f l (Some g) h = ⊎_elim
    (λ (e : g.number ≡ f.number). sym h.there ∙ ap (λ (k : ℕ). sent_at past k) e ∙ l.there)
    (λ other. ⊎_elim
    (λ (low : g.number < f.number). absurd (h.after f.number f low l.there l.flow))
    (λ (low : f.number < g.number). absurd (l.after g.number g low h.there h.flow))
    other)
    (cases_order g.number f.number)

-- ---- the splits

older_split : (s : LogEntry) (past : List LogEntry) (p : Split) → IsSplit past p → IsSplit (s ∷ past) p
older_split s past p h =
    let low : p.later.number < length past = at_below past p.later.number p.later h.later in
    let order : p.first.number < p.later.number = h.order in
    record {
      first = at_rest s past p.first.number (λ e. absurd (omega arith)) ∙ h.first;
      later = at_rest s past p.later.number (λ e. absurd (omega arith)) ∙ h.later;
      order = h.order;
      flow = h.flow;
      apart = h.apart;
      between = λ k q a b c d. h.between k q a b (sym (at_rest s past k (λ e. absurd (omega arith))) ∙ c) d;
    }

abbrev pair : Sending → Sending → Split
pair f t = record { first = f; later = t }

differ : (a b : Backend) → same_backend a b ≡ false → a ≡ b → ⊥
differ a b h e = false≢true (sym h ∙ ap (λ (x : Backend). same_backend a x) (sym e) ∙ is_same a)

new_split : (s : LogEntry) (past : List LogEntry) (f t : Sending) → newest s past ≡ Some t → IsLast past t.flow f → same_backend f.backend t.backend ≡ false → IsSplit (s ∷ past) (record { first = f; later = t })
new_split s past f t e l d =
    let at : t.number ≡ length past = sent_number (length past) s.event s.outcome t e in
    let low : f.number < length past = at_below past f.number f l.there in
    record {
      first = at_rest s past f.number (λ g. absurd (omega arith)) ∙ l.there;
      later = at_head s past t.number at ∙ e;
      order = omega arith;
      flow = l.flow;
      apart = differ f.backend t.backend d;
      between = λ k q a b c g. l.after k q a (sym (at_rest s past k (λ h. absurd (omega arith))) ∙ c) g;
    }

new_splits : (s : LogEntry) (past : List LogEntry) (o : Option Sending) → newest s past ≡ o → All (IsSplit (s ∷ past)) (split_by (λ x. last_sent past x) o)
new_splits s past None e = All-nil (IsSplit (s ∷ past))
new_splits s past (Some t) e = by_last (last_sent past t.flow) (last_is past t.flow)
  where
    by_backend : (f : Sending) → IsLast past t.flow f → (b : Bool) → same_backend f.backend t.backend ≡ b → All (IsSplit (s ∷ past)) (if b then [] else pair f t ∷ [])
    by_backend f l true d = All-nil (IsSplit (s ∷ past))
    by_backend f l false d = All-cons (IsSplit (s ∷ past)) (record { first = f; later = t }) [] (new_split s past f t e l d) (All-nil (IsSplit (s ∷ past)))

    by_last : (last : Option Sending) → LastIs past t.flow last → All (IsSplit (s ∷ past)) (split_after last t)
    by_last None l = All-nil (IsSplit (s ∷ past))
    by_last (Some f) l = by_backend f l (same_backend f.backend t.backend) refl

pub each_split : (past : List LogEntry) → All (IsSplit past) (splits_of past)
each_split [] = All-nil (IsSplit [])
each_split (s ∷ past) = All-append (IsSplit (s ∷ past)) (splits_of past) (split_by (λ x. last_sent past x) (newest s past))
    (All-weaker (IsSplit past) (IsSplit (s ∷ past)) (older_split s past) (splits_of past) (each_split past))
    (new_splits s past (newest s past) refl)

down_split : (s : LogEntry) (past : List LogEntry) (p : Split) → (p.later.number ≡ length past → ⊥) → IsSplit (s ∷ past) p → IsSplit past p
down_split s past p ne h =
    let later : sent_at past p.later.number ≡ Some p.later = sym (at_rest s past p.later.number ne) ∙ h.later in
    let low : p.later.number < length past = at_below past p.later.number p.later later in
    let order : p.first.number < p.later.number = h.order in
    record {
      first = sym (at_rest s past p.first.number (λ e. absurd (omega arith))) ∙ h.first;
      later = later;
      order = h.order;
      flow = h.flow;
      apart = h.apart;
      between = λ k q a b c d. h.between k q a b (at_rest s past k (λ e. absurd (omega arith)) ∙ c) d;
    }

front_split : (s : LogEntry) (past : List LogEntry) (p : Split) → p.later.number ≡ length past → IsSplit (s ∷ past) p → Contains (split_by (λ x. last_sent past x) (newest s past)) p
front_split s past p e h =
    let sent : newest s past ≡ Some p.later = sym (at_head s past p.later.number e) ∙ h.later in
    let order : p.first.number < p.later.number = h.order in
    let l : IsLast past p.later.flow p.first = record {
      there = sym (at_rest s past p.first.number (λ g. absurd (omega arith))) ∙ h.first;
      flow = h.flow;
      after = λ k q a b c. let low : k < length past = at_below past k q b in h.between k q a (omega arith) (at_rest s past k (λ g. absurd (omega arith)) ∙ b) c;
    } in
    let last : last_sent past p.later.flow ≡ Some p.first = only_last past p.later.flow p.first l (last_sent past p.later.flow) (last_is past p.later.flow) in
    let other : same_backend p.first.backend p.later.backend ≡ false = false_from_ne_true (same_backend p.first.backend p.later.backend) (λ b. h.apart (same_is p.first.backend p.later.backend b)) in
    subst (λ (o : Option Sending). Contains (split_by (λ x. last_sent past x) o) p) (sym sent)
    (subst (λ (o : Option Sending). Contains (split_after o p.later) p) (sym last)
    (subst (λ (b : Bool). Contains (if b then [] else pair p.first p.later ∷ []) p) (sym other) (0, omega arith, refl)))

pub all_splits : (past : List LogEntry) (p : Split) → IsSplit past p → Contains (splits_of past) p
all_splits [] p h = absurd (none-some p.later h.later)
all_splits (s ∷ past) p h = ⊎_elim
    (λ (e : p.later.number ≡ length past). Contains-append_right (splits_of past) (split_by (λ x. last_sent past x) (newest s past)) p (front_split s past p e h))
    (λ (ne : p.later.number ≡ length past → ⊥). Contains-append_left (splits_of past) (split_by (λ x. last_sent past x) (newest s past)) p (all_splits past p (down_split s past p ne h)))
    (cases_eq p.later.number (length past))

-- ---- in the order of their later sends

-- an event is the later one of one split at most
one_more : (s : LogEntry) (past : List LogEntry) (o : Option Sending) → newest s past ≡ o
    → (split_by (λ x. last_sent past x) o ≡ []) ⊎ ((q : Split) × (split_by (λ x. last_sent past x) o ≡ q ∷ []) × (q.later.number ≡ length past))
one_more s past None e = inl refl
one_more s past (Some t) e = by_last (last_sent past t.flow)
  where
    at : t.number ≡ length past
    at = sent_number (length past) s.event s.outcome t e

    by_backend : (f : Sending) (b : Bool) → ((if b then [] else pair f t ∷ []) ≡ []) ⊎ ((q : Split) × ((if b then [] else pair f t ∷ []) ≡ q ∷ []) × (q.later.number ≡ length past))
    by_backend f true = inl refl
    by_backend f false = inr (record { first = f; later = t }, refl, at)

    by_last : (last : Option Sending) → (split_after last t ≡ []) ⊎ ((q : Split) × (split_after last t ≡ q ∷ []) × (q.later.number ≡ length past))
    by_last None = inl refl
    by_last (Some f) = by_backend f (same_backend f.backend t.backend)

rises_push : (ns : List ℕ) (n : ℕ) → IsStrictlyIncreasing ns → All (λ m. m < n) ns → IsStrictlyIncreasing (ns ++ n ∷ [])
rises_push ns n h low = λ k within. ⊎_elim
    (λ (old : k + 1 < length ns).
    let g : get_or ns k 0 < get_or ns (k + 1) 0 = h k old in
    let one : get_or (ns ++ n ∷ []) k 0 ≡ get_or ns k 0 = get_or_append_left ns (n ∷ []) 0 k (omega arith) in
    let other : get_or (ns ++ n ∷ []) (k + 1) 0 ≡ get_or ns (k + 1) 0 = get_or_append_left ns (n ∷ []) 0 (k + 1) old in
    omega (arith, one, other, g))
    (λ (new : length ns ≤ k + 1).
    let both : length (ns ++ n ∷ []) ≡ length ns + 1 = length-append ns (n ∷ []) in
    let last : length ns ≡ k + 1 = omega arith in
    let g : get_or ns k 0 < n = low k 0 (omega arith) in
    let one : get_or (ns ++ n ∷ []) k 0 ≡ get_or ns k 0 = get_or_append_left ns (n ∷ []) 0 k (omega arith) in
    let other : get_or (ns ++ n ∷ []) (k + 1) 0 ≡ n = ap (λ (i : ℕ). get_or (ns ++ n ∷ []) i 0) (sym last) ∙ get_or-append_seam ns n [] 0 in
    omega (arith, one, other, g))
    (cases_lt (k + 1) (length ns))

laters_below : (past : List LogEntry) → All (λ n. n < length past) (map (λ p. p.later.number) (splits_of past))
laters_below past = All-map (λ n. n < length past) (λ (p : Split). p.later.number) (splits_of past)
    (All-weaker (IsSplit past) (λ p. p.later.number < length past) (λ p h. at_below past p.later.number p.later h.later) (splits_of past) (each_split past))

pub splits_rise : (past : List LogEntry) → IsStrictlyIncreasing (map (λ p. p.later.number) (splits_of past))
splits_rise [] = λ k within. absurd (omega arith)
splits_rise (s ∷ past) = ⊎_elim
    (λ (none : split_by (λ x. last_sent past x) (newest s past) ≡ []). subst (λ (qs : List Split). IsStrictlyIncreasing (map (λ p. p.later.number) qs)) (sym (ap (λ (qs : List Split). splits_of past ++ qs) none ∙ append-nil (splits_of past))) (splits_rise past))
    (λ (one : (q : Split) × (split_by (λ x. last_sent past x) (newest s past) ≡ q ∷ []) × (q.later.number ≡ length past)).
    subst (λ (qs : List Split). IsStrictlyIncreasing (map (λ p. p.later.number) (splits_of past ++ qs))) (sym one.1)
    (subst (λ (ns : List ℕ). IsStrictlyIncreasing ns) (sym (map-append (λ (p : Split). p.later.number) (splits_of past) (one.0 ∷ [])))
    (rises_push (map (λ p. p.later.number) (splits_of past)) one.0.later.number (splits_rise past)
    (subst (λ (n : ℕ). All (λ m. m < n) (map (λ p. p.later.number) (splits_of past))) (sym one.2) (laters_below past)))))
    (one_more s past (newest s past) refl)

pub are_splits : (past : List LogEntry) → AreSplits past (splits_of past)
are_splits past = record { each = each_split past; whole = all_splits past; ascending = splits_rise past }

-- ---- the flows

contains_cases : {X : Type 0} (y : X) (xs : List X) (x : X) → Contains (y ∷ xs) x → (y ≡ x) ⊎ Contains xs x
contains_cases y xs x h = go h.0 h.1 h.2
  where
    go : (k : ℕ) → k < length (y ∷ xs) → get_or (y ∷ xs) k x ≡ x → (y ≡ x) ⊎ Contains xs x
    go zero low e = inl e
    go (suc k) low e = inr (k, omega arith, e)

contains_more : {X : Type 0} (y : X) (xs : List X) (x : X) → Contains xs x → Contains (y ∷ xs) x
contains_more y xs x h = (suc h.0, (let low : h.0 < length xs = h.1 in omega arith), h.2)

sent_older : (s : LogEntry) (past : List LogEntry) (x : Flow) → WasSent past x → WasSent (s ∷ past) x
sent_older s past x w =
    let low : w.place < length past = at_below past w.place w.sending w.there in
    record { place = w.place; sending = w.sending; there = at_rest s past w.place (λ e. absurd (omega arith)) ∙ w.there; flow = w.flow }

sent_newest : (s : LogEntry) (past : List LogEntry) (t : Sending) → newest s past ≡ Some t → WasSent (s ∷ past) t.flow
sent_newest s past t e = record { place = length past; sending = t; there = at_head s past (length past) refl ∙ e; flow = refl }

sent_cases : (s : LogEntry) (past : List LogEntry) (x : Flow) → WasSent (s ∷ past) x → ((q : Sending) × (newest s past ≡ Some q) × (q.flow ≡ x)) ⊎ WasSent past x
sent_cases s past x w = ⊎_elim
    (λ (e : w.place ≡ length past). inl (w.sending, sym (at_head s past w.place e) ∙ w.there, w.flow))
    (λ (ne : w.place ≡ length past → ⊥). inr (record { place = w.place; sending = w.sending; there = sym (at_rest s past w.place ne) ∙ w.there; flow = w.flow }))
    (cases_eq w.place (length past))

no_flow : (past : List LogEntry) (x : Flow) → LastIs past x None → WasSent past x → ⊥
no_flow past x h w = h w.place w.sending w.there w.flow

flows_more : (s : LogEntry) (past : List LogEntry) (xs : List Flow) → AreFlows past xs → (o : Option Sending) → newest s past ≡ o → AreFlows (s ∷ past) (flows_with (λ x. last_sent past x) o xs)
flows_more s past xs h None e = record {
  sent = λ x. (
    λ c. sent_older s past x ((h.sent x).0 c),
    λ w. ⊎_elim
        (λ (new : (q : Sending) × (newest s past ≡ Some q) × (q.flow ≡ x)). absurd (none-some new.0 (sym e ∙ new.1)))
        (λ (old : WasSent past x). (h.sent x).1 old)
        (sent_cases s past x w),
  );
  distinct = h.distinct;
}
flows_more s past xs h (Some t) e = by_last (last_sent past t.flow) (last_is past t.flow)
  where
    is_t : (x : Flow) → ((q : Sending) × (newest s past ≡ Some q) × (q.flow ≡ x)) → t.flow ≡ x
    is_t x new = ap (λ (z : Sending). z.flow) (same_Some t new.0 (sym e ∙ new.1)) ∙ new.2

    by_last : (last : Option Sending) → LastIs past t.flow last → AreFlows (s ∷ past) (if is_some last then xs else t.flow ∷ xs)
    by_last (Some f) l = record {
      sent = λ x. (
        λ c. sent_older s past x ((h.sent x).0 c),
        λ w. ⊎_elim
            (λ (new : (q : Sending) × (newest s past ≡ Some q) × (q.flow ≡ x)). (h.sent x).1 (record { place = f.number; sending = f; there = l.there; flow = l.flow ∙ is_t x new }))
            (λ (old : WasSent past x). (h.sent x).1 old)
            (sent_cases s past x w),
      );
      distinct = h.distinct;
    }
    by_last None l = record {
      sent = λ x. (
        λ c. ⊎_elim
            (λ (here : t.flow ≡ x). subst (λ (y : Flow). WasSent (s ∷ past) y) here (sent_newest s past t e))
            (λ (later : Contains xs x). sent_older s past x ((h.sent x).0 later))
            (contains_cases t.flow xs x c),
        λ w. ⊎_elim
            (λ (new : (q : Sending) × (newest s past ≡ Some q) × (q.flow ≡ x)). (0, omega arith, is_t x new))
            (λ (old : WasSent past x). contains_more t.flow xs x ((h.sent x).1 old))
            (sent_cases s past x w),
      );
      distinct = IsDistinct-cons (λ x y. same_flow x y) t.flow xs
          (recursion_from_All (λ y. same_flow t.flow y ≡ false) xs
          (All-weaker (λ y. Contains xs y) (λ y. same_flow t.flow y ≡ false)
          (λ y c. false_from_ne_true (same_flow t.flow y) (λ same. no_flow past t.flow l (subst (λ (z : Flow). WasSent past z) (sym (same_flow-true t.flow y same)) ((h.sent y).0 c))))
          xs (All-contains_itself xs)))
          h.distinct;
    }

pub are_flows : (past : List LogEntry) → AreFlows past (flows_of past)
unfolding IsDistinct
are_flows [] = record { sent = λ x. (λ c. absurd (let low : c.0 < 0 = c.1 in omega arith), λ w. absurd (none-some w.sending w.there)); distinct = tt }
are_flows (s ∷ past) = flows_more s past (flows_of past) (are_flows past) (newest s past) refl
