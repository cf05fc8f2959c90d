use Rattle.std.proofs.lemmas.Result.{err_from_is_err_and}
use Rattle.scenario.specs.declared.playing.Played.TheVariants.{NotAtAll}
use Rattle.scenario_faults.proofs.Placing.{refused_at}
use Rattle.scenario_faults.proofs.unplayed_scenario_in.Goals as goal

pub returns-in_err-read_placed-clause-place : goal.returns-in_err-read_placed-clause-place
returns-in_err-read_placed-clause-place c =
    let p = err_from_is_err_and c.from_residual.result c.from_residual.ensures.1 in
    rw p.1 (refused_at NotAtAll c.args.text.now c.in_err-read_placed.field-0.0 p.0 p.2 c.in_err-read_placed.ensures.refused c.in_err-read_placed.ensures.place)
