use Rattle.run_records.proofs.Parts.{refused_text}
use Rattle.run_records.proofs.wrapping.put_text.Goals as goal

pub returns-in-Err-clause-cut : goal.returns-in-Err-clause-cut
returns-in-Err-clause-cut g c = λ rs is. refused_text _ _ c.args.text.now rs is c.in-Err.ensures.refused
