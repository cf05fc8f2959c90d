-- A report in which a flow that begins again is another connection.
use Rattle.std.proofs.Common.{◌≡◌, ℕ, List, [], ◌∷◌, ◌++◌, Option, Result, Ok, Err, refl, sym, ap, ◌∙◌, subst, string_bytes}
use Rattle.std.specs.Prelude.{OnOk}
use Rattle.pcap_file.specs.declared.format.InputEnd.{InputEnd}
use Rattle.pcap_file.specs.Device.{Tape}
use Rattle.spreader.specs.Choices.{Choice}
use Rattle.cluster_node.specs.declared.events.LogEntry.{LogEntry}
use Rattle.cluster_core.specs.Cluster.{Cluster}
use Rattle.event_trace.specs.Trace.{Trace}
use Rattle.run_report.specs.Causes.{Lookups}
use Rattle.connection_starts.specs.declared.ordinals.Ordinals.{Ordinals}
use Rattle.connection_changes.specs.declared.turned.TurnedBook.{TurnedBook}
use Rattle.connection_changes.specs.Turns.{Reckoning}
use Rattle.connection_changes.specs.TurnedBooks.{IsTurnedBookOf}
use Rattle.scenario.specs.declared.plan.Scenario.{Scenario}
use Rattle.simulation.specs.Plans.{Planned}
use Rattle.node_part.specs.Parts.{part_of, part_trace}
use Rattle.node_part.proofs.Wholes.{verdicts_own}
use Rattle.node_part.proofs.Ends.{Ended, part_ended}
use Rattle.simulate_scenario.specs.Answers.{listing_if, report_behind}
use Rattle.simulate_scenario.specs.Asked.{keeps_changes}
use Rattle.simulate_scenario.specs.Described.{rules_in, cluster_in, choice_in, plan_in, lookups_in}
use Rattle.simulate_scenario.specs.Paging.{ArePaged, lines_if}
use Rattle.simulate_scenario.specs.Told.{AnswersBy}
use Rattle.simulate_scenario.specs.Turned.{unturned, turned_if, turned_summary_if, turned_behind, turned_report, turned_counts_if, AreTurnedNotes, IsTurnedAnswer, TurnedToldIn}
use Rattle.simulate_scenario.specs.declared.asking.Answer.{Answer}
use Rattle.simulate_scenario.specs.declared.asking.Wanted.{Wanted}
use Rattle.simulate_scenario.specs.declared.notes.Notebook.{Notebook}
use Rattle.simulate_scenario.proofs.Listed.{behind_told, lines_are}

-- one event more
pub turned_more : {P E : Type 0} (told : P → P → List ℕ → List ℕ → Type 0) (r : Result (Unit {0}) E) (wanted paged beside : Wanted) (firsts : List P) (ordinals : List Ordinals) (past : List LogEntry) (s : LogEntry)
    (old new : Notebook) (number number' : ℕ) (lines lines' : List ℕ) (pages pages' : P) (book book' : TurnedBook) → AreTurnedNotes told wanted paged beside firsts ordinals past old number lines pages book
    → (ArePaged told paged beside firsts past old number lines pages → ArePaged told paged beside firsts (s ∷ past) new number' lines' pages')
    → ((o : Ordinals) → IsTurnedBookOf o past book → OnOk r (IsTurnedBookOf o (s ∷ past) book')) → OnOk r (AreTurnedNotes told wanted paged beside firsts ordinals (s ∷ past) new number' lines' pages' book')
turned_more told (Err e) wanted paged beside firsts ordinals past s old new number number' lines lines' pages pages' book book' h more booked = tt
turned_more told (Ok u) wanted paged beside firsts ordinals past s old new number number' lines lines' pages pages' book book' h more booked = record {
  paged_is = h.paged_is;
  paged_are = more h.paged_are;
  turns = h.turns;
  turns_are = h.turns_are;
  book_is = booked h.turns h.book_is;
}

-- what is told of connections stands behind the listing, and behind the report
pub turned_told : (told : List ℕ → List ℕ → Type 0) → ((text whole more : List ℕ) → told text whole → told (text ++ more) (whole ++ more))
    → (text : List ℕ) (lookups : Lookups) (idle : Option ℕ) (wanted paged : Wanted) (r : Reckoning) (trace : Trace) (packets : ℕ) (ending : InputEnd) → paged ≡ unturned wanted
    → told text (lines_if paged.form paged.list trace.past)
    → told (report_behind (text ++ turned_if wanted.form wanted.places wanted.splits lookups idle r) lookups idle paged trace packets ending ++ turned_summary_if wanted.form wanted.summary lookups idle r)
    (turned_behind (listing_if wanted.form wanted.list trace) lookups idle wanted r trace packets ending)
turned_told told more text lookups idle wanted paged r trace packets ending is h =
    let splits = turned_if wanted.form wanted.places wanted.splits lookups idle r in
    let listed = listing_if wanted.form wanted.list trace in
    let front : told text listed = subst (λ (whole : List ℕ). told text whole) (ap (λ (w : Wanted). lines_if w.form w.list trace.past) is ∙ lines_are wanted.form wanted.list trace) h in
    let behind = behind_told told more (text ++ splits) (listed ++ splits) lookups idle paged trace packets ending (more text listed splits front) in
    let whole = report_behind (listed ++ splits) lookups idle (unturned wanted) trace packets ending in
    more (report_behind (text ++ splits) lookups idle paged trace packets ending) whole (turned_summary_if wanted.form wanted.summary lookups idle r)
    (subst (λ (w : Wanted). told (report_behind (text ++ splits) lookups idle paged trace packets ending) (report_behind (listed ++ splits) lookups idle w trace packets ending)) is behind)

-- what pages were told, by what is wanted, by the first of them and by the ordinals
pub turned_as : {P : Type 0} (told : P → P → List ℕ → List ℕ → Type 0) (only : Option ℕ) (k : Cluster) (choice : Choice) (plan : Planned) (lookups : Lookups) (idle : Option ℕ) (asked wanted : Wanted) (firsts first : List P) (ordinals turns : List Ordinals) (left out : P) (a : Answer) (i i' o o' : Tape)
    → asked ≡ wanted → firsts ≡ first → ordinals ≡ turns → out ≡ left
    → AnswersBy (λ l d t n e. IsTurnedAnswer told asked firsts ordinals left a l d (part_trace only t) n e) k choice plan lookups idle i i' o o'
    → AnswersBy (λ l d t n e. IsTurnedAnswer told wanted first turns out a l d (part_trace only t) n e) k choice plan lookups idle i i' o o'
turned_as told only k choice plan lookups idle asked wanted firsts first ordinals turns left out a i i' o o' e f j g h =
    subst (λ x. AnswersBy (λ l d t n e. IsTurnedAnswer told wanted first turns x a l d (part_trace only t) n e) k choice plan lookups idle i i' o o') (sym g)
    (subst (λ (os : List Ordinals). AnswersBy (λ l d t n e. IsTurnedAnswer told wanted first os left a l d (part_trace only t) n e) k choice plan lookups idle i i' o o') j
    (subst (λ (xs : List _). AnswersBy (λ l d t n e. IsTurnedAnswer told wanted xs ordinals left a l d (part_trace only t) n e) k choice plan lookups idle i i' o o') f
    (subst (λ (w : Wanted). AnswersBy (λ l d t n e. IsTurnedAnswer told w firsts ordinals left a l d (part_trace only t) n e) k choice plan lookups idle i i' o o') e h)))

head_or : {P : Type 0} → P → List P → P
head_or p [] = p
head_or p (q ∷ qs) = q

-- the report of a part, by the whole run
pub told_of_turned : {P : Type 0} (told : P → P → List ℕ → List ℕ → Type 0) (only : Option ℕ) (s : Scenario) (wanted : Wanted) (pages out : P) (turns : Ordinals) (a : Answer) (i i' o o' : Tape)
    → AnswersBy (λ l d t n e. IsTurnedAnswer told wanted (pages ∷ []) (turns ∷ []) out a l d (part_trace only t) n e) (part_of only (cluster_in s)) (choice_in s) (plan_in s) (lookups_in s) s.idle i i' o o'
    → TurnedToldIn turns only s wanted (λ text whole. told pages out text whole) i i' o o' (string_bytes a.text) a.counts
unfolding head_or
told_of_turned told only s wanted pages out turns a i i' o o' h = go (part_ended only (cluster_in s) (choice_in s) (plan_in s) i i' o o' h.trace h.packets h.ending (verdicts_own (rules_in s)) h.simulated)
  where
    go : Ended only (cluster_in s) (choice_in s) (plan_in s) i i' o o' h.trace h.packets h.ending → TurnedToldIn turns only s wanted (λ text whole. told pages out text whole) i i' o o' (string_bytes a.text) a.counts
    go ended =
        let t : IsTurnedAnswer told wanted (pages ∷ []) (turns ∷ []) out a (lookups_in s) s.idle (part_trace only ended.trace) h.packets h.ending =
        subst (λ (c : Trace). IsTurnedAnswer told wanted (pages ∷ []) (turns ∷ []) out a (lookups_in s) s.idle c h.packets h.ending) ended.same h.answer in
        let same : t.turns ≡ turns = ap (head_or turns) (sym t.turns_are) in
        let whole = turned_report turns (lookups_in s) s.idle wanted (part_trace only ended.trace) h.packets h.ending in
        record {
          whole = whole;
          answers = record {
            trace = ended.trace;
            packets = h.packets;
            ending = h.ending;
            simulated = ended.simulated;
            answer = refl;
            counted = t.counted ∙ ap (λ (q : Ordinals). turned_counts_if (keeps_changes wanted.places wanted.summary) q (part_trace only ended.trace).past) same;
          };
          is_told = subst (λ first. told first out (string_bytes a.text) whole) (ap (head_or pages) (sym t.first_is))
              (subst (λ (q : Ordinals). told t.first out (string_bytes a.text) (turned_report q (lookups_in s) s.idle wanted (part_trace only ended.trace) h.packets h.ending)) same t.text_told);
        }
