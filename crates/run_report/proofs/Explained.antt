-- What was sent, as the history has it; and how the two events of a split are explained.
use Rattle.std.proofs.Common.{◌≡◌, ℕ, zero, suc, Bool, true, false, List, [], ◌∷◌, ◌++◌, length, reverse, Option, Some, None, refl, sym, ap, ◌∙◌, subst, ⊎_elim}
use Rattle.std.specs.Prelude.{slice_get, option_and_then, if◌then◌else◌}
use Rattle.std.proofs.lemmas.Bool.{cases_eq, false_from_ne_true}
use Rattle.std.proofs.lemmas.List.{reverse-append, length-reverse}
use Rattle.std.proofs.lemmas.List.Elements.{All-weaker}
use Rattle.std.proofs.lemmas.Option.{same_Some}
use Rattle.five_tuple.specs.declared.Flow.{Flow}
use Rattle.connection_table.specs.Touches.{same_flow}
use Rattle.connection_table.proofs.Standing.{same_flow-refl}
use Rattle.selection.specs.Readied.{same_backend}
use Rattle.selection.proofs.Among.{same_is}
use Rattle.cluster_node.specs.declared.events.Event.{Event}
use Rattle.cluster_node.specs.declared.events.LogEntry.{LogEntry}
use Rattle.cluster_node.specs.declared.outcomes.Outcome.{Outcome}
use Rattle.cluster_node.specs.declared.outcomes.Outcome.TheVariants.{Installed, Placed, Forward, Dropped, Restarted, Refused}
use Rattle.cluster_core.specs.Explain.{Send, send_of, explained}
use Rattle.cluster_core.specs.Histories.{outcomes_of}
use Rattle.cluster_core.specs.Headline.{Sent}
use Rattle.cluster_core.specs.declared.explaining.Verdict.TheVariants as verdict
use Rattle.run_report.specs.declared.sending.Sending.{Sending}
use Rattle.run_report.specs.declared.sending.Split.{Split}
use Rattle.run_report.specs.Splits.{version_of, sent_by, sent_at, splits_of}
use Rattle.run_report.specs.Pairs.{IsSplit, HistoriesTellSends, SplitsAreExplained, send_in}
use Rattle.run_report.proofs.Pairs.{at_head, at_rest, each_split}

at_end : (h : List LogEntry) (s : LogEntry) → slice_get (h ++ s ∷ []) (length h) ≡ Some s
at_end [] s = refl
at_end (x ∷ h) s = at_end h s

not_at_end : (h : List LogEntry) (s : LogEntry) (k : ℕ) → (k ≡ length h → ⊥) → slice_get (h ++ s ∷ []) k ≡ slice_get h k
not_at_end [] s zero ne = absurd (ne refl)
not_at_end [] s (suc k) ne = refl
not_at_end (x ∷ h) s zero ne = refl
not_at_end (x ∷ h) s (suc k) ne = not_at_end h s k (λ e. ne (ap suc e))

abbrev by_said : ℕ → LogEntry → Option Sending
by_said k s = sent_by k s.event s.outcome

pub sends_told : (past : List LogEntry) (k : ℕ) → sent_at past k ≡ option_and_then (λ s. sent_by k s.event s.outcome) (slice_get (reverse past) k)
sends_told [] k = refl
sends_told (s ∷ past) k = ⊎_elim
    (λ (e : k ≡ length past). at_head s past k e ∙ ap (λ (n : ℕ). sent_by n s.event s.outcome) (sym e) ∙ sym (ap (λ (o : Option LogEntry). option_and_then (λ q. by_said k q) o) (turned ∙ ap (λ (n : ℕ). slice_get (reverse past ++ s ∷ []) n) (e ∙ sym (length-reverse past)) ∙ at_end (reverse past) s)))
    (λ (ne : k ≡ length past → ⊥). at_rest s past k ne ∙ sends_told past k ∙ sym (ap (λ (o : Option LogEntry). option_and_then (λ q. by_said k q) o) (turned ∙ not_at_end (reverse past) s k (λ e. ne (e ∙ length-reverse past)))))
    (cases_eq k (length past))
  where
    turned : slice_get (reverse (s ∷ past)) k ≡ slice_get (reverse past ++ s ∷ []) k
    turned = ap (λ (h : List LogEntry). slice_get h k) (reverse-append (s ∷ []) past)

pub histories_tell : HistoriesTellSends
histories_tell past k = sends_told past k

abbrev sent_as : Sending → Send
sent_as q = record { flow = q.flow; backend = q.backend; origin = q.origin }

send_told : (k : ℕ) (e : Event) (o : Outcome) (q : Sending) → sent_by k e o ≡ Some q → send_of o ≡ Some (sent_as q)
send_told k e Installed q h = absurd cc
send_told k e (Placed w f) q h = absurd cc
send_told k e (Forward n w p x b v) q h = ap (λ (z : Sending). Some (sent_as z)) (same_Some (record { number = k; flow = x; version = version_of e; backend = b; origin = v }) q h)
send_told k e (Dropped p c) q h = absurd cc
send_told k e (Restarted l) q h = absurd cc
send_told k e (Refused r) q h = absurd cc

pub send_at_event : (past : List LogEntry) (k : ℕ) (q : Sending) → sent_at past k ≡ Some q → send_in (reverse past) k ≡ Some (sent_as q)
send_at_event past k q h = go (slice_get (reverse past) k) (sym (sends_told past k) ∙ h)
  where
    go : (o : Option LogEntry) → option_and_then (λ s. sent_by k s.event s.outcome) o ≡ Some q → option_and_then (λ s. send_of s.outcome) o ≡ Some (sent_as q)
    go None e = absurd cc
    go (Some s) e = send_told k s.event s.outcome q e

pub split_explained : (past : List LogEntry) (slot : Flow → ℕ) (p : Split) → IsSplit past p
    → explained slot (send_in (reverse past) p.first.number) (send_in (reverse past) p.later.number) ≡ verdict.Split (slot p.first.flow) p.first.origin p.later.origin p.first.backend p.later.backend
split_explained past slot p h =
    let one : send_in (reverse past) p.first.number ≡ Some (sent_as p.first) = send_at_event past p.first.number p.first h.first in
    let other : send_in (reverse past) p.later.number ≡ Some (sent_as p.later) = send_at_event past p.later.number p.later h.later in
    let same : same_flow p.first.flow p.later.flow ≡ true = ap (λ (x : Flow). same_flow p.first.flow x) (sym h.flow) ∙ same_flow-refl p.first.flow in
    let apart : same_backend p.first.backend p.later.backend ≡ false = false_from_ne_true (same_backend p.first.backend p.later.backend) (λ b. h.apart (same_is p.first.backend p.later.backend b)) in
    ap (λ (o : Option Send). explained slot o (send_in (reverse past) p.later.number)) one
    ∙ ap (λ (o : Option Send). explained slot (Some (sent_as p.first)) o) other
    ∙ ap (λ (b : Bool). if b then (if same_backend p.first.backend p.later.backend then verdict.Same else verdict.Split (slot p.first.flow) p.first.origin p.later.origin p.first.backend p.later.backend) else verdict.OtherFlow) same
    ∙ ap (λ (b : Bool). if b then verdict.Same else verdict.Split (slot p.first.flow) p.first.origin p.later.origin p.first.backend p.later.backend) apart

pub splits_explained : SplitsAreExplained
splits_explained past slot = All-weaker (IsSplit past) (λ p. explained slot (send_in (reverse past) p.first.number) (send_in (reverse past) p.later.number) ≡ verdict.Split (slot p.first.flow) p.first.origin p.later.origin p.first.backend p.later.backend)
    (split_explained past slot) (splits_of past) (each_split past)

-- what was sent is among the outcomes
sent_here : (outs : List Outcome) (k i : ℕ) (e : Event) (o : Outcome) (q : Sending) → slice_get outs i ≡ Some o → sent_by k e o ≡ Some q → Sent outs q.flow q.backend q.origin
sent_here outs k i e Installed q at h = absurd cc
sent_here outs k i e (Placed w f) q at h = absurd cc
sent_here outs k i e (Forward n w p x b v) q at h = subst (λ (z : Sending). Sent outs z.flow z.backend z.origin) (same_Some (record { number = k; flow = x; version = version_of e; backend = b; origin = v }) q h)
    (record { place = i; node = n; worker = w; packet = p; there = at })
sent_here outs k i e (Dropped p c) q at h = absurd cc
sent_here outs k i e (Restarted l) q at h = absurd cc
sent_here outs k i e (Refused r) q at h = absurd cc

outcome_at : (h : List LogEntry) (k : ℕ) (s : LogEntry) → slice_get h k ≡ Some s → slice_get (outcomes_of h) k ≡ Some s.outcome
outcome_at [] k s e = absurd cc
outcome_at (x ∷ h) zero s e = ap (λ (z : LogEntry). Some z.outcome) (same_Some x s e)
outcome_at (x ∷ h) (suc k) s e = outcome_at h k s e

pub sent_among : (past : List LogEntry) (k : ℕ) (q : Sending) → sent_at past k ≡ Some q → Sent (outcomes_of (reverse past)) q.flow q.backend q.origin
sent_among past k q h = go (slice_get (reverse past) k) refl (sym (sends_told past k) ∙ h)
  where
    go : (o : Option LogEntry) → slice_get (reverse past) k ≡ o → option_and_then (λ s. sent_by k s.event s.outcome) o ≡ Some q → Sent (outcomes_of (reverse past)) q.flow q.backend q.origin
    go None at e = absurd cc
    go (Some s) at e = sent_here (outcomes_of (reverse past)) k k s.event s.outcome q (outcome_at (reverse past) k s at) e
