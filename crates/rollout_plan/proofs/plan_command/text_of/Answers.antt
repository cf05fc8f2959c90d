use Rattle.std.proofs.Common.{ℕ, Option, subst, sym, ap, ◌∙◌, string_bytes}
use Rattle.rollout_plan.specs.declared.slots.TableRule.{TableRule}
use Rattle.rollout_plan.specs.Plans.{ShowsAs}
use Rattle.rollout_plan.specs.Forms.{version_text_as, plan_text_as}
use Rattle.rollout_plan.proofs.plan_command.text_of.Goals as goal

pub returns-in_ok-version_text_of-in-None-clause-text : goal.returns-in_ok-version_text_of-in-None-clause-text
returns-in_ok-version_text_of-in-None-clause-text c =
    subst (λ (to : Option ℕ). ShowsAs c.args.form c.args.scenario.now c.args.from to (string_bytes c.in_ok-version_text_of-in-None.field-0)) (sym c.in-None.is)
    (record {
      version = c.in_ok-before.before.now;
      of_number = c.in_ok-before.ensures.found;
      is = c.in_ok-version_text_of-in-None.ensures ∙ ap (λ (rule : TableRule). version_text_as c.args.form rule c.in_ok-before.before.now) c.rule_of-rule.ensures;
    })

pub returns-in_ok-plan_text_of-in-Some-clause-text : goal.returns-in_ok-plan_text_of-in-Some-clause-text
returns-in_ok-plan_text_of-in-Some-clause-text c =
    subst (λ (to : Option ℕ). ShowsAs c.args.form c.args.scenario.now c.args.from to (string_bytes c.in_ok-plan_text_of-in-Some.field-0)) (sym c.in-Some.is)
    (record {
      before = c.in_ok-before.before.now;
      after = c.in_ok-after-in-Some.after.now;
      of_from = c.in_ok-before.ensures.found;
      of_to = c.in_ok-after-in-Some.ensures.found;
      is = c.in_ok-plan_text_of-in-Some.ensures ∙ ap (λ (rule : TableRule). plan_text_as c.args.form rule c.in_ok-before.before.now c.in_ok-after-in-Some.after.now) c.rule_of-rule.ensures;
    })
