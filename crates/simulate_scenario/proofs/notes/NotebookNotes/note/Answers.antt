use Rattle.std.proofs.Common.{◌∷◌, ◌≡◌, sym, subst}
use Rattle.std.specs.Prelude.{option_copied, OnOk}
use Rattle.event_trace.specs.Noting.{said_by}
use Rattle.simulate_scenario.specs.declared.asking.Query.{Query}
use Rattle.simulate_scenario.specs.declared.asking.Query.TheVariants.{Report}
use Rattle.simulate_scenario.specs.Notebooks.{AreOf}
use Rattle.simulate_scenario.proofs.notes.NotebookNotes.note.Goals as goal

pub returns-in-Report : goal.returns-in-Report
returns-in-Report c = λ past h.
    let s = said_by c.args.event.now (option_copied c.args.packet) c.args.outcome.now in
    let is : c.args.asked.now ≡ Report c.in-Report.wanted = c.in-Report.is in
    subst (λ (a : Query). OnOk c.report.result (AreOf a (s ∷ past) c.report.new.self)) (sym is) (c.report.ensures past (subst (λ (a : Query). AreOf a past c.args.self.now) is h))
