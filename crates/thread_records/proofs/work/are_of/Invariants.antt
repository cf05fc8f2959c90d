use Rattle.std.proofs.Common.{take}
use Rattle.std.specs.Prelude.{All}
use Rattle.cluster_core.specs.Setups.{rules_for}
use Rattle.thread_records.specs.Works.{IsOf, IsWorkerOf}
use Rattle.thread_records.proofs.work.are_of.Given as goal

abbrev pub invariant-loop-at : goal.invariant-loop-at
invariant-loop-at g l = record {
  those : All (IsWorkerOf (λ a b. g.S.PartialEq.eq a b) l.setup l.catalogue) (take l.at l.workers);
  of : All (λ w. IsOf (λ s z. g.S.Scheme.pick s z) (rules_for (λ s z. g.S.Scheme.pick s z) (λ h. g.H.FlowHash.plain h) l.setup l.catalogue) w) (take l.at l.workers);
}
