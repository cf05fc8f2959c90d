use Rattle.recent_order.proofs.Sides.{unlinked_by}
use Rattle.recent_order.proofs.order.unlink.Goals as goal

pub returns : goal.returns
returns c = λ xs h there. unlinked_by c.args.links.now c.args.place xs c.requires.before c.requires.after h there
