use Rattle.std.proofs.Common.{refl}
use Rattle.std.proofs.lemmas.Bool.{false≢true}
use Rattle.cluster_core.specs.Setups.{rules_for}
use Rattle.thread_records.specs.Works.{IsOf, IsWorkerOf}
use Rattle.thread_records.proofs.Kept.{all_step, all_there, one_of_all}
use Rattle.thread_records.proofs.work.are_of.Goals as goal

pub returns-then-not-is_of-clause-exact : goal.returns-then-not-is_of-clause-exact
returns-then-not-is_of-clause-exact g c = (
  λ h. absurd (false≢true h),
  λ all. c.if-not-is_of.ensures.exact.1 (one_of_all (IsWorkerOf (λ a b. g.S.PartialEq.eq a b) c.args.setup.now c.args.catalogue.now) c.args.workers.now c.loop-at.at c.index-workers-at.result c.loop-at-test.true c.index-workers-at.is all),
)

pub loop-at-preserved : goal.loop-at-preserved
loop-at-preserved g c = record {
  those = all_step (IsWorkerOf (λ a b. g.S.PartialEq.eq a b) c.args.setup.now c.args.catalogue.now) c.args.workers.now c.loop-at.at c.index-workers-at.result c.loop-at-test.true c.index-workers-at.is c.loop-at.invariant.those (c.is_of.ensures.exact.0 c.if-not-is_of.false);
  of = all_step (λ w. IsOf (λ s z. g.S.Scheme.pick s z) (rules_for (λ s z. g.S.Scheme.pick s z) (λ h. g.H.FlowHash.plain h) c.args.setup.now c.args.catalogue.now) w) c.args.workers.now c.loop-at.at c.index-workers-at.result c.loop-at-test.true c.index-workers-at.is c.loop-at.invariant.of (c.is_of.ensures.of c.if-not-is_of.false);
}

pub returns-clause-exact : goal.returns-clause-exact
returns-clause-exact g c = (
  λ h. all_there (IsWorkerOf (λ a b. g.S.PartialEq.eq a b) c.args.setup.now c.args.catalogue.now) c.args.workers.now c.loop-at.at c.loop-at-test.false c.loop-at.invariant.those,
  λ all. refl,
)

pub returns-clause-of : goal.returns-clause-of
returns-clause-of g c = λ h. all_there (λ w. IsOf (λ s z. g.S.Scheme.pick s z) (rules_for (λ s z. g.S.Scheme.pick s z) (λ h. g.H.FlowHash.plain h) c.args.setup.now c.args.catalogue.now) w) c.args.workers.now c.loop-at.at c.loop-at-test.false c.loop-at.invariant.of
