use Rattle.std.proofs.Common.{ℕ, List, ◌∙◌, ap, sym, subst, string_bytes}
use Rattle.hash_laws.specs.Any.{plain_of}
use Rattle.run_report.specs.Causes.{lookups_of}
use Rattle.simulate_scenario.specs.declared.asking.Wanted.{Wanted}
use Rattle.simulate_scenario.specs.Answers.{listing_if, report_behind, report_of}
use Rattle.simulate_scenario.specs.Notebooks.{KeepsBooks}
use Rattle.simulate_scenario.specs.declared.notes.Notebook.{Notebook}
use Rattle.cluster_core.specs.Histories.{outcomes_of}
use Rattle.event_trace.specs.declared.counts.Counts.{Counts}
use Rattle.event_trace.specs.Counting.{CountsAre}
use Rattle.simulate_scenario.proofs.Listed.{behind_told, lines_are}
use Rattle.simulate_scenario.proofs.paging.PagedNotesAnswering.answer.Goals as goal

pub report-requires-clause-counts : goal.report-requires-clause-counts
report-requires-clause-counts g c =
    subst (λ (x : Counts). CountsAre (outcomes_of c.args.ended.now.trace.past) x) (sym (ap (λ (n : Notebook). n.counts) c.in_ok-settle.ensures.rest)) c.requires.notes.kept_are.0

pub report-requires-clause-books : goal.report-requires-clause-books
report-requires-clause-books g c =
    let past = c.args.ended.now.trace.past in
    let b = subst (λ (w : Wanted). KeepsBooks w past c.settle.new.self) c.requires.notes.beside_is (c.in_ok-settle.ensures.books past c.requires.notes.kept_are.1) in
    (b.0, b.1, b.2)

pub returns : goal.returns
returns g c =
    let h = c.requires.notes in
    let notes = c.args.self.now in
    let r = c.args.ended.now in
    let d = c.args.task.now.deployment in
    let lookups = lookups_of (plain_of d.setup.hash) d.setup.size d.catalogue in
    let wanted = c.args.task.now.asked.wanted in
    let b = subst (λ (w : Wanted). KeepsBooks w r.trace.past c.settle.new.self) h.beside_is (c.in_ok-settle.ensures.books r.trace.past h.kept_are.1) in
    let text = c.in_ok-text.ensures
    ∙ ap (λ lines. report_behind (string_bytes lines) lookups d.setup.idle wanted r.trace r.packets r.ending) c.replace-lines.ensures.value in
    record {
      first = h.first;
      first_is = h.first_is;
      text_told = subst (λ (t : List ℕ). g.P.Pages.told h.first notes.pages t (report_of lookups d.setup.idle wanted r.trace r.packets r.ending)) (sym text)
          (behind_told (λ t whole. g.P.Pages.told h.first notes.pages t whole) (λ t whole more told. g.met.P.Pages.told_more h.first notes.pages t whole more told)
          (string_bytes notes.lines) (listing_if wanted.form wanted.list r.trace) lookups d.setup.idle wanted r.trace r.packets r.ending
          (subst (λ (whole : List ℕ). g.P.Pages.told h.first notes.pages (string_bytes notes.lines) whole) (lines_are wanted.form wanted.list r.trace) h.lines_told));
      counted = c.counts_if-counts.ensures r.trace.past b.1;
    }
