use Rattle.std.proofs.Common.{ℕ, List, ◌++◌, ◌∙◌, ap, sym, subst, string_bytes}
use Rattle.hash_laws.specs.Any.{plain_of}
use Rattle.cluster_core.specs.Histories.{outcomes_of}
use Rattle.event_trace.specs.declared.counts.Counts.{Counts}
use Rattle.event_trace.specs.Counting.{CountsAre}
use Rattle.run_report.specs.Causes.{lookups_of}
use Rattle.connection_changes.specs.Turns.{Reckoning, reckoned}
use Rattle.simulate_scenario.specs.Answers.{report_behind}
use Rattle.simulate_scenario.specs.Notebooks.{KeepsBooks}
use Rattle.simulate_scenario.specs.Turned.{reckoned_by, turned_if, turned_summary_if, turned_report}
use Rattle.simulate_scenario.specs.declared.asking.Wanted.{Wanted}
use Rattle.simulate_scenario.specs.declared.notes.Notebook.{Notebook}
use Rattle.simulate_scenario.proofs.Turning.{turned_told}
use Rattle.simulate_scenario.proofs.turned.TurnedNotesAnswering.answer.Goals as goal

pub report-requires-clause-counts : goal.report-requires-clause-counts
report-requires-clause-counts g c =
    subst (λ (x : Counts). CountsAre (outcomes_of c.args.ended.now.trace.past) x) (sym (ap (λ (n : Notebook). n.counts) c.in_ok-settle.ensures.rest)) c.requires.notes.paged_are.kept_are.0

pub report-requires-clause-books : goal.report-requires-clause-books
report-requires-clause-books g c =
    let past = c.args.ended.now.trace.past in
    let h = c.requires.notes.paged_are in
    let b = subst (λ (w : Wanted). KeepsBooks w past c.settle.new.self) h.beside_is (c.in_ok-settle.ensures.books past h.kept_are.1) in
    (b.0, b.1, b.2)

pub returns : goal.returns
returns g c =
    let h = c.requires.notes in
    let p = h.paged_are in
    let notes = c.args.self.now in
    let r = c.args.ended.now in
    let d = c.args.task.now.deployment in
    let lookups = lookups_of (plain_of d.setup.hash) d.setup.size d.catalogue in
    let wanted = c.args.task.now.asked.wanted in
    let paged = c.args.task.now.asked.paged.wanted in
    let same = c.account-account.ensures h.turns r.trace.past h.book_is in
    let all = reckoned_by h.turns r.trace.past in
    let lines = c.in_ok-push_turned_if.ensures
    ∙ ap (λ (front : List ℕ). front ++ turned_if wanted.form wanted.places wanted.splits lookups d.setup.idle (reckoned c.account-account.result)) (ap (λ l. string_bytes l) c.replace-lines.ensures.value)
    ∙ ap (λ (q : Reckoning). string_bytes notes.paged.lines ++ turned_if wanted.form wanted.places wanted.splits lookups d.setup.idle q) same in
    let body = c.in_ok-text.ensures ∙ ap (λ (front : List ℕ). report_behind front lookups d.setup.idle paged r.trace r.packets r.ending) lines in
    let text = c.in_ok-push_turned_summary_if.ensures
    ∙ ap (λ (front : List ℕ). front ++ turned_summary_if wanted.form wanted.summary lookups d.setup.idle (reckoned c.account-account.result)) body
    ∙ ap (λ (q : Reckoning). report_behind (string_bytes notes.paged.lines ++ turned_if wanted.form wanted.places wanted.splits lookups d.setup.idle all) lookups d.setup.idle paged r.trace r.packets r.ending
    ++ turned_summary_if wanted.form wanted.summary lookups d.setup.idle q) same in
    let told = turned_told (λ t whole. g.P.Pages.told p.first notes.paged.pages t whole) (λ t whole more known. g.met.P.Pages.told_more p.first notes.paged.pages t whole more known)
    (string_bytes notes.paged.lines) lookups d.setup.idle wanted paged all r.trace r.packets r.ending h.paged_is p.lines_told in
    record {
      first = p.first;
      first_is = p.first_is;
      turns = h.turns;
      turns_are = h.turns_are;
      text_told = subst (λ (t : List ℕ). g.P.Pages.told p.first notes.paged.pages t (turned_report h.turns lookups d.setup.idle wanted r.trace r.packets r.ending)) (sym text) told;
      counted = c.turned_counts_if-counts.ensures h.turns r.trace.past same;
    }
