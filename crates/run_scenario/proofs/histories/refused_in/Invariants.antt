use Rattle.std.proofs.Common.{◌≡◌, ◌≤◌, take}
use Rattle.cluster_core.specs.OutcomeCounts.{is_refused, how_many}
use Rattle.run_scenario.proofs.histories.refused_in.Given as goal

abbrev pub invariant-loop-at : goal.invariant-loop-at
invariant-loop-at l = (l.refused ≡ how_many (λ o. is_refused o) (take l.at l.outcomes.items)) × (l.refused ≤ l.at)
