use Rattle.std.proofs.Common.{subst}
use Rattle.thread_records.specs.Works.{WorkView, Worked}
use Rattle.thread_records.proofs.work.WorkerRecord.into_handled.Goals as goal

pub returns-clause-worked : goal.returns-clause-worked
returns-clause-worked g c = subst (λ (w : WorkView g.row.S.Denot). Worked (λ s z. g.S.Scheme.pick s z) w) c.self.view_is c.self.invariant.0
