use Rattle.event_trace.proofs.Adding.{traces_add_up}
use Rattle.event_trace.proofs.laws.traces_add_up.Goals as goal

pub returns : goal.returns
returns c = λ w ss nodes. traces_add_up w ss nodes
