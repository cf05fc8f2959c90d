use Rattle.std.proofs.Common.{sym, subst}
use Rattle.std.specs.Prelude.{option_copied}
use Rattle.event_trace.specs.Noting.{said_by}
use Rattle.simulate_scenario.specs.declared.asking.Query.TheVariants.{Report}
use Rattle.simulate_scenario.specs.declared.notes.Notebook.{Notebook}
use Rattle.simulate_scenario.specs.Notebooks.{AreOf}
use Rattle.simulate_scenario.proofs.Listed.{paged_more}
use Rattle.simulate_scenario.proofs.paging.PagedNotesNotes.note.Goals as goal

pub returns : goal.returns
returns g c = λ past h.
    let asked = c.args.asked.now in
    let s = said_by c.args.event.now (option_copied c.args.packet) c.args.outcome.now in
    paged_more (λ first pages text whole. g.P.Pages.told first pages text whole) c.report.result asked.wanted asked.unlisted asked.first.items past s c.args.self.now.kept c.report.new.self
    c.args.self.now.number c.list_if.new.self.number _ _ c.args.self.now.pages c.list_if.new.self.pages h (c.in_ok-list_if.ensures.numbers past)
    (λ first numbers told. c.in_ok-list_if.ensures.lines first past numbers told)
    (λ k. c.report.ensures past (subst (λ (n : Notebook). AreOf (Report asked.unlisted) past n) (sym c.in_ok-list_if.ensures.kept) k))
