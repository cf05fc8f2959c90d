use Rattle.std.proofs.Common.{◌∙◌}
use Rattle.place_buckets.specs.declared.lanes.TheConstants.{LANES}
use Rattle.place_buckets.proofs.Grouping.{none_grouped}
use Rattle.place_buckets.proofs.groups.grown.Goals as goal

pub refill-requires-clause-grouped : goal.refill-requires-clause-grouped
refill-requires-clause-grouped c = none_grouped _ _ c.args.count LANES (c.as_mut_slice.ensures.value ∙ c.in_ok-groups.ensures.items_if_clones_equal (λ y same. same))
