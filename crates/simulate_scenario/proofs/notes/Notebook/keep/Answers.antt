use Rattle.std.specs.Prelude.{option_copied}
use Rattle.event_trace.specs.Noting.{said_by}
use Rattle.simulate_scenario.proofs.Noted.{keeps_more}
use Rattle.simulate_scenario.proofs.notes.Notebook.keep.Goals as goal

pub returns : goal.returns
returns c = λ past k.
    keeps_more c.args.two past (said_by c.args.event.now (option_copied c.args.packet) c.args.outcome.now) c.args.self.now _ k c.in_ok-self.ensures c.in_ok-push_event_if.ensures
    c.keep_outcome.ensures c.keep_outcome-2.ensures c.keep_send.ensures c.keep_send-2.ensures
