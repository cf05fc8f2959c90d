use Rattle.std.proofs.Common.{sym}
use Rattle.std.specs.List.{range_with_len}
use Rattle.std.proofs.lemmas.List.Sums.{length-filter}
use Rattle.table_commands.specs.Compare.{is_moved}
use Rattle.rollout_plan.proofs.SlotCounts.{causes_add_up}
use Rattle.rollout_plan.proofs.Least.{least_is_least}
use Rattle.rollout_plan.proofs.Once.{tables_name_once, turns_are_picks}
use Rattle.rollout_plan.proofs.laws.plans_add_up.Goals as goal

pub returns-clause-compared : goal.returns-clause-compared
returns-clause-compared c = λ before after. sym (length-filter (is_moved before after) (range_with_len 0 before.size))

pub returns-clause-causes : goal.returns-clause-causes
returns-clause-causes c = causes_add_up

pub returns-clause-least : goal.returns-clause-least
returns-clause-least c = least_is_least

pub returns-clause-once : goal.returns-clause-once
returns-clause-once c = tables_name_once

pub returns-clause-turns : goal.returns-clause-turns
returns-clause-turns c = turns_are_picks
