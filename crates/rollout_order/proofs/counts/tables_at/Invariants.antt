use Rattle.std.proofs.Common.{◌≡◌, map, take}
use Rattle.rollout_plan.specs.Tables.{table_by}
use Rattle.rollout_order.specs.Steps.{members_at}
use Rattle.rollout_order.proofs.counts.tables_at.Given as goal

abbrev pub invariant-loop-change : goal.invariant-loop-change
invariant-loop-change l = l.tables.items ≡ map (λ c. table_by l.rollout.rule (members_at l.rollout l.marks c)) (take l.change-index l.rollout.changes.items)
