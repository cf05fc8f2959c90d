use Rattle.std.proofs.Common.{Option, Result, ◌++◌, ◌∷◌, [], sym, subst, ap}
use Rattle.thread_roles.specs.declared.fault.RunFault.{RunFault}
use Rattle.node_threads.specs.PrivateClusters.{fault_in, IsSumUp}
use Rattle.node_threads.proofs.Reporting.{sums_none}
use Rattle.node_threads.proofs.cluster.Joined.keep.Goals as goal

pub returns-in-Ok-push-clause-told : goal.returns-in-Ok-push-clause-told
returns-in-Ok-push-clause-told c = λ fs h. subst (λ (f : Option RunFault). IsSumUp (fs ++ f ∷ []) c.args.self.now.fault) (sym (ap (λ (r : Result _ RunFault). fault_in r) c.in-Ok.is)) (sums_none fs c.args.self.now.fault h)
