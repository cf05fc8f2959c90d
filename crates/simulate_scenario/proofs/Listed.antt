-- A report behind what pages were told of its listing.
use Rattle.std.proofs.Common.{◌≡◌, ℕ, Bool, true, false, List, [], ◌∷◌, ◌++◌, Option, Result, Ok, Err, refl, sym, ap, ◌∙◌, subst, string_bytes}
use Rattle.std.specs.Prelude.{OnOk}
use Rattle.cluster_node.specs.declared.events.LogEntry.{LogEntry}
use Rattle.json_lines.specs.Forms.{shares_as}
use Rattle.json_lines.specs.declared.forms.Form.{Form}
use Rattle.pcap_file.specs.declared.format.InputEnd.{InputEnd}
use Rattle.pcap_file.specs.Device.{Tape}
use Rattle.event_trace.specs.Trace.{Trace}
use Rattle.run_report.specs.Causes.{Lookups}
use Rattle.scenario.specs.declared.plan.Scenario.{Scenario}
use Rattle.simulate_scenario.specs.declared.asking.Answer.{Answer}
use Rattle.simulate_scenario.specs.declared.asking.Wanted.{Wanted}
use Rattle.simulate_scenario.specs.Answers.{listing_if, report_behind, report_of, splits_if, plain_report, summary_if}
use Rattle.simulate_scenario.specs.declared.asking.Query.TheVariants.{Report}
use Rattle.simulate_scenario.specs.declared.notes.Notebook.{Notebook}
use Rattle.simulate_scenario.specs.Asked.{begun, asked_shares}
use Rattle.simulate_scenario.specs.Notebooks.{AreOf}
use Rattle.simulate_scenario.specs.Paging.{ArePaged, NumbersIf, lines_if}
use Rattle.simulate_scenario.proofs.Noted.{begun_listed}
use Rattle.simulate_scenario.specs.Described.{cluster_in, choice_in, plan_in, lookups_in}
use Rattle.simulate_scenario.specs.Told.{AnswersBy, IsToldAnswer, ToldIn}

-- what stands behind a listing stands behind the whole
pub behind_told : (told : List ℕ → List ℕ → Type 0) → ((text whole more : List ℕ) → told text whole → told (text ++ more) (whole ++ more))
    → (text whole : List ℕ) (lookups : Lookups) (idle : Option ℕ) (wanted : Wanted) (trace : Trace) (packets : ℕ) (ending : InputEnd) → told text whole
    → told (report_behind text lookups idle wanted trace packets ending) (report_behind whole lookups idle wanted trace packets ending)
behind_told told more text whole lookups idle wanted trace packets ending h =
    let splits = splits_if wanted.form wanted.places wanted.splits lookups idle trace in
    let report = plain_report wanted.form trace packets ending in
    let shares = shares_as wanted.form (asked_shares wanted) trace.past in
    more (((text ++ splits) ++ report) ++ shares) (((whole ++ splits) ++ report) ++ shares) (summary_if wanted.form wanted.summary lookups idle trace)
    (more ((text ++ splits) ++ report) ((whole ++ splits) ++ report) shares (more (text ++ splits) (whole ++ splits) report (more text whole splits h)))

head_or : {P : Type 0} → P → List P → P
head_or p [] = p
head_or p (q ∷ qs) = q

pub listed_told : {P : Type 0} (told : P → P → List ℕ → List ℕ → Type 0) (s : Scenario) (wanted asked : Wanted) (pages left out : P) (firsts : List P) (a : Answer) (i i' o o' : Tape)
    → asked ≡ wanted → firsts ≡ pages ∷ [] → out ≡ left
    → AnswersBy (λ l d t n e. IsToldAnswer told asked firsts left a l d t n e) (cluster_in s) (choice_in s) (plan_in s) (lookups_in s) s.idle i i' o o'
    → ToldIn s wanted (λ text whole. told pages out text whole) i i' o o' (string_bytes a.text) a.counts
unfolding head_or
listed_told told s wanted asked pages left out firsts a i i' o o' e f g h =
    go (subst (λ (w : Wanted). AnswersBy (λ l d t n e. IsToldAnswer told w firsts left a l d t n e) (cluster_in s) (choice_in s) (plan_in s) (lookups_in s) s.idle i i' o o') e h)
  where
    go : AnswersBy (λ l d t n e. IsToldAnswer told wanted firsts left a l d t n e) (cluster_in s) (choice_in s) (plan_in s) (lookups_in s) s.idle i i' o o'
        → ToldIn s wanted (λ text whole. told pages out text whole) i i' o o' (string_bytes a.text) a.counts
    go k =
        let t = k.answer in
        let whole = report_of (lookups_in s) s.idle wanted k.trace k.packets k.ending in
        record {
          whole = whole;
          counted = (record { trace = k.trace; packets = k.packets; ending = k.ending; simulated = k.simulated; answer = refl }, t.counted);
          is_told = subst (λ first. told first out (string_bytes a.text) whole) (ap (head_or pages) (sym t.first_is ∙ f))
              (subst (λ p. told t.first p (string_bytes a.text) whole) (sym g) t.text_told);
        }

-- one event more
pub paged_more : {P E : Type 0} (told : P → P → List ℕ → List ℕ → Type 0) (r : Result (Unit {0}) E) (wanted beside : Wanted) (firsts : List P) (past : List LogEntry) (s : LogEntry)
    (old new : Notebook) (number number' : ℕ) (lines lines' : List ℕ) (pages pages' : P) → ArePaged told wanted beside firsts past old number lines pages
    → (NumbersIf wanted.list past number → NumbersIf wanted.list (s ∷ past) number')
    → ((first : P) → NumbersIf wanted.list past number → told first pages lines (lines_if wanted.form wanted.list past) → told first pages' lines' (lines_if wanted.form wanted.list (s ∷ past)))
    → (AreOf (Report beside) past old → OnOk r (AreOf (Report beside) (s ∷ past) new)) → OnOk r (ArePaged told wanted beside firsts (s ∷ past) new number' lines' pages')
paged_more told (Err e) wanted beside firsts past s old new number number' lines lines' pages pages' h is line kept = tt
paged_more told (Ok u) wanted beside firsts past s old new number number' lines lines' pages pages' h is line kept = record {
  beside_is = h.beside_is;
  kept_are = kept h.kept_are;
  numbers = is h.numbers;
  first = h.first;
  first_is = h.first_is;
  lines_told = line h.first h.numbers h.lines_told;
}

-- of no events nothing is counted, and there are no lines
pub none_numbered : (list : Bool) → NumbersIf list [] 0
none_numbered true = refl
none_numbered false = tt

pub none_listed : (form : Form) (list : Bool) → lines_if form list [] ≡ begun form
none_listed form true = begun_listed form
none_listed form false = refl

-- the lines are those of the run's listing
pub lines_are : (form : Form) (list : Bool) (trace : Trace) → lines_if form list trace.past ≡ listing_if form list trace
lines_are form true trace = refl
lines_are form false trace = refl
