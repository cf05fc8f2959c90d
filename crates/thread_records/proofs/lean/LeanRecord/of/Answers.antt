use Rattle.thread_records.specs.Lean.{send_of}
use Rattle.thread_records.proofs.Leans.{lists_told}
use Rattle.thread_records.proofs.lean.LeanRecord.of.Goals as goal

pub returns-clause-sent : goal.returns-clause-sent
returns-clause-sent c = lists_told (λ n. send_of c.args.outcomes.items n) c.args.sent.items
