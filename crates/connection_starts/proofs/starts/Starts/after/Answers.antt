use Rattle.std.proofs.Common.{sym, ◌∙◌}
use Rattle.connection_starts.proofs.Begun.{first_of_flow}
use Rattle.connection_starts.proofs.starts.Starts.after.Goals as goal

pub returns-in_default : goal.returns-in_default
returns-in_default c = λ past h.
    first_of_flow c.args.self.now.idle past c.args.segment.now c.closes-is_over.result (sym (h.each c.args.segment.now.flow) ∙ sym c.in_default.ensures.value) c.closes-is_over.ensures
