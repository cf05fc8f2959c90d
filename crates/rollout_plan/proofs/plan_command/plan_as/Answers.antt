use Rattle.std.proofs.Common.{rules, ◌≡◌, ℕ, List, sym, subst, inr, string_bytes, refl}
use Rattle.command_faults.specs.declared.fault.CliFault.{CliFault}
use Rattle.rollout_plan.specs.Plans.{IsPlanAs, PlanFails}
use Rattle.rollout_plan.proofs.Shown.{has_what_it_shows}
use Rattle.rollout_plan.proofs.plan_command.plan_as.Goals as goal

pub returns-in-Ok-put_text-clause-written : goal.returns-in-Ok-put_text-clause-written
returns-in-Ok-put_text-clause-written g c =
    let value : c.as_str.result.now ≡ string_bytes c.in-Ok.text = search rules in
    (c.as_str.result.now, subst (λ (t : List ℕ). IsPlanAs c.args.form c.args.scenario.now c.args.from c.args.to t) (sym value) c.in-Ok.ensures.text, c.in-Ok-put_text.ensures.written.0, c.in-Ok-put_text.ensures.written.1)

pub returns-clause-broken : goal.returns-clause-broken
returns-clause-broken g c = λ write.
    let value : c.as_str.result.now ≡ string_bytes c.in-Ok.text = search rules in
    (c.as_str.result.now, subst (λ (t : List ℕ). IsPlanAs c.args.form c.args.scenario.now c.args.from c.args.to t) (sym value) c.in-Ok.ensures.text, c.in-Err-put_text.ensures.refused.1)

pub returns-clause-fault : goal.returns-clause-fault
returns-clause-fault g c =
    let text = c.in-Ok.ensures.text in
    subst (λ (fault : CliFault). PlanFails fault c.args.scenario.now c.args.from c.args.to) (sym c.in-Err-put_text.ensures.refused.0)
    (inr (record { meant = text.meant; means = text.means; why = has_what_it_shows c.args.form text.meant c.args.from c.args.to (string_bytes c.in-Ok.text) text.shows }))

pub returns-clause-place : goal.returns-clause-place
returns-clause-place g c = inr ((c.in-Ok.ensures.text.meant, c.in-Ok.ensures.text.means), refl)
