-- What a history has at an event, and what is explained of two.
use Rattle.std.proofs.Common.{◌≡◌, ℕ, List, reverse, Option, Some, None, Result, refl, sym, ap, ◌∙◌, subst, option_map}
use Rattle.std.proofs.lemmas.Option.{slice_get-map}
use Rattle.std.specs.Prelude.{slice_get, option_and_then, IfSome, IfOk}
use Rattle.run_report.specs.Causes.{Lookups}
use Rattle.cluster_node.specs.declared.events.LogEntry.{LogEntry}
use Rattle.cluster_node.specs.declared.outcomes.Outcome.{Outcome}
use Rattle.cluster_node.specs.Rules.{Rules}
use Rattle.cluster_core.specs.Histories.{outcomes_of}
use Rattle.cluster_core.specs.Explain.{Send, send_of, explained, PickedSend, PickedSends}
use Rattle.pcap_file.specs.declared.format.InputEnd.{InputEnd}
use Rattle.event_trace.specs.Trace.{Trace}
use Rattle.run_report.specs.Verdicts.{left_drained}
use Rattle.json_lines.specs.Forms.{explanation_as}
use Rattle.run_report.specs.Splits.{sent_at}
use Rattle.run_report.specs.declared.sending.Sending.{Sending}
use Rattle.simulate_scenario.specs.declared.asking.Query.{Query}
use Rattle.simulate_scenario.specs.declared.asking.Query.TheVariants.{Events}
use Rattle.simulate_scenario.specs.declared.asking.TwoEvents.{TwoEvents}
use Rattle.simulate_scenario.specs.Answers.{send_at, explanation_of, answer_of}
use Rattle.simulate_scenario.specs.Asked.{lines_of_two}

-- what was sent at an event, by its outcome
pub send_told : (h : List LogEntry) (k : ℕ) (o : Option Outcome) → o ≡ slice_get (outcomes_of h) k → option_and_then (λ q. send_of q) o ≡ send_at h k
send_told h k o e = ap (option_and_then (λ (q : Outcome). send_of q)) (e ∙ slice_get-map (λ (s : LogEntry). s.outcome) h k) ∙ through (slice_get h k)
  where
    through : (x : Option LogEntry) → option_and_then (λ q. send_of q) (option_map (λ s. s.outcome) x) ≡ option_and_then (λ s. send_of s.outcome) x
    through None = refl
    through (Some s) = refl

pub picked_if : (rules : Rules) (outs : List Outcome) (k : ℕ) (o : Option Outcome) → PickedSends rules outs → o ≡ slice_get outs k → IfSome o (λ q. PickedSend rules (send_of q))
picked_if rules outs k None p e = tt
picked_if rules outs k (Some o) p e = p k o (sym e)

-- the text that says why two packets went where they went, by the outcomes of their events and by what they sent
pub explanation_told : {X E : Type 0} (bytes : X → List ℕ) (r : Result X E) (lookups : Lookups) (idle : Option ℕ) (asked : Query) (trace : Trace) (packets : ℕ) (ending : InputEnd) (two : TwoEvents) (lines : List ℕ)
    (a b : Option Outcome) (p q : Option Sending) → asked ≡ Events two → lines ≡ lines_of_two two trace.past
    → a ≡ slice_get (outcomes_of (reverse trace.past)) two.one → b ≡ slice_get (outcomes_of (reverse trace.past)) two.other → p ≡ sent_at trace.past two.one → q ≡ sent_at trace.past two.other
    → IfOk r (λ s. bytes s ≡ explanation_as two.form lines (explained lookups.slot (option_and_then (λ o. send_of o) a) (option_and_then (λ o. send_of o) b)) (left_drained lookups p q))
    → IfOk r (λ s. bytes s ≡ answer_of lookups idle asked trace packets ending)
explanation_told bytes r lookups idle asked trace packets ending two lines a b p q e l f g k m h =
    subst (λ (x : Query). IfOk r (λ s. bytes s ≡ answer_of lookups idle x trace packets ending)) (sym e) (subst (λ (text : List ℕ). IfOk r (λ s. bytes s ≡ text)) same h)
  where
    told : List ℕ → Option Send → Option Send → Option Sending → Option Sending → List ℕ
    told text x y v w = explanation_as two.form text (explained lookups.slot x y) (left_drained lookups v w)

    same : told lines (option_and_then (λ o. send_of o) a) (option_and_then (λ o. send_of o) b) p q ≡ explanation_of lookups trace two
    same =
        ap (λ (text : List ℕ). told text (option_and_then (λ o. send_of o) a) (option_and_then (λ o. send_of o) b) p q) l
        ∙ ap (λ (x : Option Send). told (lines_of_two two trace.past) x (option_and_then (λ o. send_of o) b) p q) (send_told (reverse trace.past) two.one a f)
        ∙ ap (λ (y : Option Send). told (lines_of_two two trace.past) (send_at (reverse trace.past) two.one) y p q) (send_told (reverse trace.past) two.other b g)
        ∙ ap (λ (v : Option Sending). told (lines_of_two two trace.past) (send_at (reverse trace.past) two.one) (send_at (reverse trace.past) two.other) v q) k
        ∙ ap (λ (w : Option Sending). told (lines_of_two two trace.past) (send_at (reverse trace.past) two.one) (send_at (reverse trace.past) two.other) (sent_at trace.past two.one) w) m
