use Rattle.std.proofs.lemmas.Result.{err_from_is_err_and}
use Rattle.scenario.specs.declared.playing.Played.TheVariants.{OnThreads}
use Rattle.scenario_faults.proofs.Placing.{refused_at}
use Rattle.scenario_faults.proofs.thread_scenario_in.Goals as goal

pub returns-in_err-read_for_threads-clause-place : goal.returns-in_err-read_for_threads-clause-place
returns-in_err-read_for_threads-clause-place c =
    let p = err_from_is_err_and c.from_residual.result c.from_residual.ensures.1 in
    rw p.1 (refused_at OnThreads c.args.text.now c.in_err-read_for_threads.field-0.0 p.0 p.2 c.in_err-read_for_threads.ensures.refused c.in_err-read_for_threads.ensures.place)
