use Rattle.recent_order.proofs.Sides.{oldest_read}
use Rattle.recent_order.proofs.order.RecentOrder.oldest.Goals as goal

pub returns-clause-last : goal.returns-clause-last
returns-clause-last c = (oldest_read c.self.inside.links.items c.args.self.now c.index.result.now c.requires c.self.invariant c.self.view_is c.index.ensures).last

pub returns-clause-some : goal.returns-clause-some
returns-clause-some c = (oldest_read c.self.inside.links.items c.args.self.now c.index.result.now c.requires c.self.invariant c.self.view_is c.index.ensures).some

pub returns-clause-within : goal.returns-clause-within
returns-clause-within c = (oldest_read c.self.inside.links.items c.args.self.now c.index.result.now c.requires c.self.invariant c.self.view_is c.index.ensures).within
