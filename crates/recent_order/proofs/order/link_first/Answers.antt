use Rattle.recent_order.proofs.Sides.{first_by}
use Rattle.recent_order.proofs.order.link_first.Goals as goal

pub returns : goal.returns
returns c = λ xs h gone. first_by c.args.links.now c.args.place xs c.requires.some c.requires.within c.requires.first h gone
