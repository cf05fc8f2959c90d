use Rattle.std.proofs.Common.{ap, sym, subst, inr, is_some, refl}
use Rattle.command_faults.specs.declared.fault.CliFault.{CliFault}
use Rattle.scenario_tables.specs.Picking.{PickFails}
use Rattle.scenario_tables.proofs.picking.pick_in.Goals as goal

pub returns-clause-fault : goal.returns-clause-fault
returns-clause-fault g c =
    let text = c.in-Ok.ensures.text in
    let shown = text.shows in
    subst (λ (fault : CliFault). PickFails fault c.args.scenario.now c.args.options.version (g.R.Source.tape c.args.input.now).bytes) (sym c.in-Err-put_text.ensures.refused.0)
    (inr (record { meant = text.meant; means = text.means; why = (shown.of_scheme, ap is_some shown.of_number, shown.short) }))

pub returns-clause-place : goal.returns-clause-place
returns-clause-place g c = inr ((c.in-Ok.ensures.text.meant, c.in-Ok.ensures.text.means), refl)
