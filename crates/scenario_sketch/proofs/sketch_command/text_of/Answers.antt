use Rattle.std.proofs.lemmas.Result.{err_from_is_err_and}
use Rattle.scenario_sketch.proofs.Refusals.{record_fails}
use Rattle.scenario_sketch.proofs.sketch_command.text_of.Goals as goal

pub returns-in_err-records-clause-fault : goal.returns-in_err-records-clause-fault
returns-in_err-records-clause-fault g c =
    let before = g.I.Source.tape c.args.input.now in
    let after = g.I.Source.tape c.count_records.new.input in
    let p = err_from_is_err_and c.from_residual-in_err-records.result c.from_residual-in_err-records.ensures.1 in
    rw (p.1, p.2) (record_fails c.in_ok-head.head before (g.I.Source.tape c.read_start.new.source) after c.in_err-records.field-0.0 c.in_ok-head.ensures.read c.in_ok-head.ensures.cause c.in_err-records.ensures.refused)
