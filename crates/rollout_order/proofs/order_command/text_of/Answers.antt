use Rattle.std.proofs.Common.{subst}
use Rattle.rollout_plan.specs.declared.slots.TableRule.{TableRule}
use Rattle.rollout_order.specs.Rollouts.{IsRollout}
use Rattle.rollout_order.proofs.order_command.text_of.Goals as goal

pub returns-clause-text : goal.returns-clause-text
returns-clause-text c = record {
  before = c.in_ok-before.before.now;
  after = c.in_ok-after.after.now;
  of_from = c.in_ok-before.ensures.found;
  of_to = c.in_ok-after.ensures.found;
  rollout = c.in_ok-rollout.rollout;
  replaced = subst (λ (rule : TableRule). IsRollout rule c.in_ok-before.before.now c.in_ok-after.after.now c.in_ok-rollout.rollout) c.rule_of.ensures c.in_ok-rollout.ensures;
  is = c.in_ok-orders_text_of.ensures;
}
