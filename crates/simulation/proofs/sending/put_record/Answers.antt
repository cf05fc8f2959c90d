use Rattle.simulation.proofs.Sends.{wrote_one, refused_one}
use Rattle.simulation.proofs.sending.put_record.Goals as goal

pub returns-in-Ok-clause-ok : goal.returns-in-Ok-clause-ok
returns-in-Ok-clause-ok g c = λ r e. wrote_one _ _ c.args.text.now r e c.in-Ok.ensures.bytes c.in-Ok.ensures.unfailed

pub returns-in-Err-clause-cut : goal.returns-in-Err-clause-cut
returns-in-Err-clause-cut g c = λ r e. refused_one _ _ c.args.text.now r e c.in-Err.ensures.refused
