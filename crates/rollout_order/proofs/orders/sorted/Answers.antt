use Rattle.std.proofs.Common.{◌∙◌, ap, filter, rules}
use Rattle.std.specs.List.Sorted.{ties}
use Rattle.rollout_order.specs.Orders.{fewer}
use Rattle.rollout_order.proofs.Stable.{fewer_is_order, compares_by_moved}
use Rattle.rollout_order.proofs.orders.sorted.Goals as goal

pub returns-clause-sorted : goal.returns-clause-sorted
returns-clause-sorted c = c.in_ok-sort_by.ensures.sorted fewer fewer_is_order (compares_by_moved (λ a r q k. search rules))

pub returns-clause-stable : goal.returns-clause-stable
returns-clause-stable c = λ o. c.in_ok-sort_by.ensures.stable fewer fewer_is_order (compares_by_moved (λ a r q k. search rules)) o ∙ ap (filter (ties fewer o)) (search rules)
