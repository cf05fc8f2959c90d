use Rattle.std.proofs.Common.{false, arith, ◌==◌, ◌∙◌}
use Rattle.std.specs.List.{list_any}
use Rattle.std.proofs.lemmas.List.{length-set}
use Rattle.std.proofs.lemmas.List.Edits.{fill_by_more}
use Rattle.std.proofs.lemmas.List.FromFn.{fill_by_all}
use Rattle.scenario.proofs.step.marks_of.Goals as goal

pub loop-worker-preserved : goal.loop-worker-preserved
loop-worker-preserved c = record {
  long = length-set c.loop-worker.marks c.loop-worker.worker-counter c.contains.result ∙ c.loop-worker.invariant.long;
  each = rw c.contains.ensures.value (fill_by_more (λ k. list_any (λ other. other == k) c.args.named.now) c.loop-worker.marks c.loop-worker.worker-counter false
      (omega (arith, c.loop-worker.invariant.long, c.loop-worker-test.true)) c.loop-worker.invariant.each);
}

pub returns : goal.returns
returns c = fill_by_all (λ k. list_any (λ other. other == k) c.args.named.now) c.loop-worker.marks 16 false c.loop-worker.invariant.long
    (λ k below. c.loop-worker.invariant.each k (omega (arith, below, c.loop-worker-test.false)))
