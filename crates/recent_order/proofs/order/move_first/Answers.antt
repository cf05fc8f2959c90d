use Rattle.std.proofs.Common.{arith}
use Rattle.recent_order.specs.Places.{without}
use Rattle.recent_order.proofs.Others.{gone, absent}
use Rattle.recent_order.proofs.Sides.{older_below, newer_below, first_below}
use Rattle.recent_order.proofs.order.move_first.Goals as goal

pub unlink-requires-clause-before : goal.unlink-requires-clause-before
unlink-requires-clause-before c = older_below c.args.links.now c.args.place c.requires.linked.0 c.requires.within c.requires.linked.1 c.requires.linked.2

pub unlink-requires-clause-after : goal.unlink-requires-clause-after
unlink-requires-clause-after c = newer_below c.args.links.now c.args.place c.requires.linked.0 c.requires.within c.requires.linked.1 c.requires.linked.2

pub link_first-requires-clause-first : goal.link_first-requires-clause-first
link_first-requires-clause-first c =
    first_below c.unlink.new.links c.args.place (without c.args.place c.requires.linked.0) (omega arith) (c.unlink.ensures c.requires.linked.0 c.requires.linked.1 c.requires.linked.2)

pub returns : goal.returns
returns c = λ xs h there. c.link_first.ensures (without c.args.place xs) (c.unlink.ensures xs h there) (absent c.args.place (without c.args.place xs) (gone c.args.place xs))
