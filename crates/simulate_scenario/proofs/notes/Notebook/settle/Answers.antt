use Rattle.simulate_scenario.proofs.Noted.{settled}
use Rattle.simulate_scenario.proofs.notes.Notebook.settle.Goals as goal

pub returns-clause-books : goal.returns-clause-books
returns-clause-books c = λ past k.
    settled c.settle_changes_if.result c.args.wanted past c.args.self.now c.settle_changes_if.new.self c.keeps_changes.result k c.keeps_changes.ensures
    (c.settle_changes_if.ensures.books past) c.settle_changes_if.ensures.rest
