use Rattle.thread_records.specs.Ends.{all_handled}
use Rattle.thread_records.proofs.Ends.{ended_tells, ended_drained, ended_served}
use Rattle.thread_records.proofs.journal.Journal.end.Goals as goal

pub returns-in-Ok-clause-tells : goal.returns-in-Ok-clause-tells
returns-in-Ok-clause-tells g c = λ rules packets d all. ended_tells rules packets c.args.self.now c.close_life.new.self c.args.drained (all_handled c.args.workers.items) c.in-Ok.ensures.after d c.in-Ok.ensures.judged (c.in-Ok.ensures.fit rules all)

pub returns-in-Ok-clause-drained : goal.returns-in-Ok-clause-drained
returns-in-Ok-clause-drained g c = λ rules packets d all b. ended_drained rules packets c.args.self.now c.close_life.new.self c.args.drained (all_handled c.args.workers.items) c.in-Ok.ensures.after d c.in-Ok.ensures.judged (c.in-Ok.ensures.fit rules all) b

pub returns-in-Ok-clause-served : goal.returns-in-Ok-clause-served
returns-in-Ok-clause-served g c = ended_served c.args.self.now c.close_life.new.self (all_handled c.args.workers.items) c.in-Ok.ensures.after
