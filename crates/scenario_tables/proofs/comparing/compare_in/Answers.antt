use Rattle.std.proofs.Common.{◌∙◌, Option, option_map, option_and_then, ap, sym, subst, inr, refl}
use Rattle.pool_versions.specs.declared.service.Version.{Version}
use Rattle.command_faults.specs.declared.fault.CliFault.{CliFault}
use Rattle.rollout_plan.specs.Plans.{version_in}
use Rattle.scenario_tables.specs.Services.{keys_of_both}
use Rattle.scenario_tables.specs.Tables.{MovesFail, compared}
use Rattle.scenario_tables.proofs.comparing.compare_in.Goals as goal

pub returns-clause-fault : goal.returns-clause-fault
returns-clause-fault g c =
    let text = c.in-Ok.ensures.text in
    let shown = text.shows in
    let asked = compared c.args.change in
    subst (λ (fault : CliFault). MovesFail fault c.args.scenario.now (compared c.args.change)) (sym c.in-Err-put_text.ensures.refused.0)
    (inr (record {
      meant = text.meant;
      means = text.means;
      why = (
        keys_of_both shown.before shown.after,
        shown.key,
        ap (λ (v : Option Version). option_and_then (λ v. option_map (λ w. keys_of_both v w) (version_in text.meant c.args.change.to)) v) shown.of_from
            ∙ ap (λ (w : Option Version). option_map (λ w. keys_of_both shown.before w) w) shown.of_to,
        shown.of_word,
      );
    }))

pub returns-clause-place : goal.returns-clause-place
returns-clause-place g c = inr ((c.in-Ok.ensures.text.meant, c.in-Ok.ensures.text.means), refl)
