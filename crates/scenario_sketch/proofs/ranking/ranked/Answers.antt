use Rattle.std.proofs.Common.{List, subst, rules}
use Rattle.scenario_sketch.specs.declared.counted.Counted.{Counted}
use Rattle.scenario_sketch.specs.Counts.{is_busier, IsRanked}
use Rattle.scenario_sketch.proofs.Orders.{busier_is_order, compares_counts}
use Rattle.scenario_sketch.proofs.ranking.ranked.Goals as goal

pub returns : goal.returns
returns c = subst (λ (given : List Counted). IsRanked given c.sort_by.new.self.items) c.in_ok-destinations.ensures (record {
  permutation = c.in_ok-sort_by.ensures.permutation;
  descending = c.in_ok-sort_by.ensures.sorted is_busier busier_is_order (compares_counts (λ a r q k. search rules));
  ties = c.in_ok-sort_by.ensures.stable is_busier busier_is_order (compares_counts (λ a r q k. search rules));
})
