use Rattle.std.proofs.Common.{◌≡◌, take, filter, not}
use Rattle.scenario_sketch.specs.Hops.{is_other_direction}
use Rattle.scenario_sketch.proofs.listing.listed.Given as goal

abbrev pub invariant-loop-counted : goal.invariant-loop-counted
invariant-loop-counted l = l.services.items ≡ filter (λ c. not (is_other_direction l.origins c)) (take l.counted-index l.ranked)
