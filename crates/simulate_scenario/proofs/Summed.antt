-- A report with a summary alone, of a run without an idle limit.
use Rattle.std.proofs.Common.{◌≡◌, ℕ, Bool, true, false, List, [], ◌∷◌, ◌++◌, length, map, not, Option, Some, None, refl, sym, ap, ◌∙◌, subst, string_bytes}
use Rattle.std.specs.Prelude.{◌&&◌, ◌||◌, codes}
use Rattle.std.specs.List.{flat_map}
use Rattle.std.proofs.lemmas.List.{append-nil, length-map}
use Rattle.pcap_file.specs.declared.format.InputEnd.{InputEnd}
use Rattle.pcap_file.specs.Device.{Tape}
use Rattle.spreader.specs.Choices.{Choice}
use Rattle.cluster_core.specs.Cluster.{Cluster}
use Rattle.event_trace.specs.Trace.{Trace}
use Rattle.run_report.specs.Causes.{Lookups}
use Rattle.run_report.specs.Report.{count_line}
use Rattle.connection_changes.specs.declared.causes.ChangeCause.{ChangeCause}
use Rattle.cluster_node.specs.declared.events.LogEntry.{LogEntry}
use Rattle.connection_changes.specs.Changes.{cause_in, changes_by, counts_of}
use Rattle.connection_changes.specs.Texts as plain
use Rattle.connection_changes.specs.Turns.{Reckoning, reckoning_of}
use Rattle.json_lines.specs.declared.forms.Form.{Form}
use Rattle.json_lines.specs.declared.forms.Form.TheVariants.{Plain, Json}
use Rattle.json_lines.specs.Forms.{summary_by, shares_as}
use Rattle.json_lines.specs.Summaries as json
use Rattle.summary_book.specs.Bare.{bare_change, bare_reckoning}
use Rattle.summary_book.proofs.Causes.{causes_kept, counts_kept}
use Rattle.simulation.specs.Plans.{Planned}
use Rattle.simulate_scenario.specs.Answers.{listing_if, splits_if, summary_if, plain_report, report_of, counts_if, CountedAnswers}
use Rattle.simulate_scenario.specs.Asked.{begun, is_summary, keeps_changes}
use Rattle.simulate_scenario.specs.Summed.{IsSummedAnswer}
use Rattle.simulate_scenario.specs.Told.{AnswersBy}
use Rattle.simulate_scenario.specs.declared.asking.Answer.{Answer}
use Rattle.simulate_scenario.specs.declared.asking.Query.TheVariants.{Report}
use Rattle.simulate_scenario.specs.declared.asking.Wanted.{Wanted}

each_piece : {X : Type 0} (f g : X → List ℕ) → ((x : X) → f x ≡ g x) → (xs : List X) → flat_map f xs ≡ flat_map g xs
each_piece f g same [] = refl
each_piece f g same (x ∷ xs) = ap (λ (t : List ℕ). t ++ flat_map f xs) (same x) ∙ ap (λ (t : List ℕ). g x ++ t) (each_piece f g same xs)

plain_kept : (lookups : Lookups) (r : Reckoning) → plain.summary_in lookups None (bare_reckoning r) ≡ plain.summary_in lookups None r
unfolding plain.summary_in
plain_kept lookups r =
    ap (λ (n : ℕ). first ++ (second ++ (count_line (codes "changes") n ++ lines (bare_reckoning r)))) (length-map r.changes bare_change)
    ∙ ap (λ (t : List ℕ). first ++ (second ++ (count_line (codes "changes") (length r.changes) ++ t)))
    (each_piece (λ cause. plain.cause_line cause (changes_by lookups None (map bare_change r.changes) cause)) (λ cause. plain.cause_line cause (changes_by lookups None r.changes cause))
    (λ cause. ap (λ (n : ℕ). plain.cause_line cause n) (counts_kept lookups r.changes cause)) plain.causes)
  where
    first : List ℕ
    first = count_line (codes "connections") r.connections

    second : List ℕ
    second = count_line (codes "changed") r.changed

    lines : Reckoning → List ℕ
    lines q = flat_map (λ cause. plain.cause_line cause (changes_by lookups None q.changes cause)) plain.causes

json_kept : (lookups : Lookups) (r : Reckoning) → json.summary_in lookups None (bare_reckoning r) ≡ json.summary_in lookups None r
unfolding json.summary_in
json_kept lookups r =
    ap (λ (n : ℕ). json.summary_line r.connections r.changed n (map (λ c. cause_in lookups None c) (map bare_change r.changes))) (length-map r.changes bare_change)
    ∙ ap (λ (made : List ChangeCause). json.summary_line r.connections r.changed (length r.changes) made) (causes_kept lookups r.changes)

summary_kept : (form : Form) (lookups : Lookups) (r : Reckoning) → summary_by form lookups None (bare_reckoning r) ≡ summary_by form lookups None r
summary_kept Plain lookups r = plain_kept lookups r
summary_kept Json lookups r = json_kept lookups r

-- what is told where this alone is wanted
pub summed_told : (w : Wanted) (lookups : Lookups) (idle : Option ℕ) (trace : Trace) (packets : ℕ) (ending : InputEnd) → is_summary w ≡ true → idle ≡ None
    → (begun w.form ++ plain_report w.form trace packets ending) ++ summary_by w.form lookups idle (bare_reckoning (reckoning_of trace.past)) ≡ report_of lookups idle w trace packets ending
summed_told w lookups idle trace packets ending alone none = go w.list w.splits w.places w.backends w.nodes w.summary alone
  where
    report : List ℕ
    report = plain_report w.form trace packets ending

    kept : summary_by w.form lookups idle (bare_reckoning (reckoning_of trace.past)) ≡ summary_by w.form lookups idle (reckoning_of trace.past)
    kept = subst (λ (i : Option ℕ). summary_by w.form lookups i (bare_reckoning (reckoning_of trace.past)) ≡ summary_by w.form lookups i (reckoning_of trace.past)) (sym none) (summary_kept w.form lookups (reckoning_of trace.past))

    go : (l t p a b u : Bool) → (u && not (l || t || p || a || b)) ≡ true
        → (begun w.form ++ report) ++ summary_by w.form lookups idle (bare_reckoning (reckoning_of trace.past))
        ≡ (((listing_if w.form l trace ++ splits_if w.form p t lookups idle trace) ++ report) ++ shares_as w.form (record { backends = a; nodes = b }) trace.past) ++ summary_if w.form u lookups idle trace
    go false false false false false true h =
        ap (λ (s : List ℕ). (begun w.form ++ report) ++ s) kept
        ∙ ap (λ (s : List ℕ). (s ++ report) ++ summary_by w.form lookups idle (reckoning_of trace.past)) (sym (append-nil (begun w.form)))
        ∙ ap (λ (s : List ℕ). s ++ summary_by w.form lookups idle (reckoning_of trace.past)) (sym (append-nil ((begun w.form ++ []) ++ report)))
    go l t p a b false h = absurd cc
    go true t p a b true h = absurd cc
    go false true p a b true h = absurd cc
    go false false true a b true h = absurd cc
    go false false false true b true h = absurd cc
    go false false false false true true h = absurd cc

-- the counts of its connections
pub summed_counts : (w : Wanted) (past : List LogEntry) → is_summary w ≡ true → Some (counts_of past) ≡ counts_if (keeps_changes w.places w.summary) past
summed_counts w past alone = go w.list w.splits w.places w.backends w.nodes w.summary alone
  where
    go : (l t p a b u : Bool) → (u && not (l || t || p || a || b)) ≡ true → Some (counts_of past) ≡ counts_if (keeps_changes p u) past
    go l t true a b true h = refl
    go l t false a b true h = refl
    go l t p a b false h = absurd cc

-- such an answer is one to what was asked, with the counts of its connections
pub summed_answers : (cluster : Cluster) (choice : Choice) (plan : Planned) (lookups : Lookups) (idle : Option ℕ) (w : Wanted) (a : Answer) (i i' o o' : Tape) → is_summary w ≡ true → idle ≡ None
    → AnswersBy (λ l d t n e. IsSummedAnswer w a l d t n e) cluster choice plan lookups idle i i' o o' → CountedAnswers cluster choice plan lookups idle (Report w) i i' o o' (string_bytes a.text) a.counts
summed_answers cluster choice plan lookups idle w a i i' o o' alone none h =
    let told = h.answer alone none in
    (record { trace = h.trace; packets = h.packets; ending = h.ending; simulated = h.simulated; answer = told.0 }, told.1)
