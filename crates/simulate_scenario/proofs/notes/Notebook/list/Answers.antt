use Rattle.std.specs.Prelude.{option_copied}
use Rattle.event_trace.specs.Noting.{said_by}
use Rattle.simulate_scenario.proofs.Noted.{lists_more}
use Rattle.simulate_scenario.proofs.notes.Notebook.list.Goals as goal

pub returns-clause-lists : goal.returns-clause-lists
returns-clause-lists c = λ past l. lists_more c.args.form past (said_by c.args.event.now (option_copied c.args.packet) c.args.outcome.now) c.args.self.now _ l c.in_ok-self.ensures c.in_ok-push_event.ensures
