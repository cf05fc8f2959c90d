use Rattle.std.proofs.Common.{◌∙◌}
use Rattle.std.proofs.lemmas.List.{with_items_is}
use Rattle.recent_order.proofs.Sides.{promote_leaves, promoted_length}
use Rattle.recent_order.proofs.order.RecentOrder.promote.Goals as goal

pub invariant_of-self : goal.invariant_of-self
invariant_of-self c =
    (promote_leaves _ _ _ _ c.args.place c.args.self.now c.requires.some c.requires.within c.self.invariant c.self.view_is c.deref_mut.ensures.value c.move_first.ensures c.move_first.auto.links
    (with_items_is c.self.inside.links c.move_first.new.links (c.move_first.auto.links ∙ c.deref_mut.ensures.len))).ring

pub returns-clause-after : goal.returns-clause-after
returns-clause-after c =
    (promote_leaves _ _ _ _ c.args.place c.args.self.now c.requires.some c.requires.within c.self.invariant c.self.view_is c.deref_mut.ensures.value c.move_first.ensures c.move_first.auto.links
    (with_items_is c.self.inside.links c.move_first.new.links (c.move_first.auto.links ∙ c.deref_mut.ensures.len))).view

pub returns-clause-len : goal.returns-clause-len
returns-clause-len c =
    promoted_length _ c.args.place c.args.self.now _ c.requires.some c.requires.within c.self.invariant c.self.view_is
    (promote_leaves _ _ _ _ c.args.place c.args.self.now c.requires.some c.requires.within c.self.invariant c.self.view_is c.deref_mut.ensures.value c.move_first.ensures c.move_first.auto.links
    (with_items_is c.self.inside.links c.move_first.new.links (c.move_first.auto.links ∙ c.deref_mut.ensures.len))).view
