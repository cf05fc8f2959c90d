use Rattle.std.proofs.Common.{◌∙◌, ap, filter, rules}
use Rattle.std.specs.List.Sorted.{ties}
use Rattle.pool_versions.proofs.Stable.{by_name, by_name_is_order, compares_by_name, sorted_are}
use Rattle.pool_versions.proofs.service.sorted.Goals as goal

pub returns : goal.returns
returns c =
    sorted_are c.args.members.items c.sort_by.new.self.items
    (c.in_ok-sort_by.ensures.sorted by_name by_name_is_order (compares_by_name (λ a r q k. search rules)))
    (λ z. c.in_ok-sort_by.ensures.stable by_name by_name_is_order (compares_by_name (λ a r q k. search rules)) z ∙ ap (filter (ties by_name z)) (search rules))
