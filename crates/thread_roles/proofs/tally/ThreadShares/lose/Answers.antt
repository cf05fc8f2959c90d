use Rattle.std.proofs.Common.{◌≡◌, ℕ, ◌+◌, suc, refl, ap, ◌∙◌, arith}
use Rattle.stats_book.specs.Counts.{Counted, one_more}
use Rattle.cluster_node.specs.declared.outcomes.Cause.TheVariants.{LostAtRestart}
use Rattle.thread_roles.specs.Counts.{with_lost}
use Rattle.thread_roles.proofs.tally.ThreadShares.lose.Goals as goal

pub loop-init : goal.loop-init
loop-init g c = record { parts = refl; lost = λ e. (e, refl) }

pub loop-preserved : goal.loop-preserved
loop-preserved g c = record {
  parts = c.drop_one.ensures.parts ∙ c.loop.invariant.parts;
  lost = λ e.
      let one = c.drop_one.ensures.lost e in
      let had = c.loop.invariant.lost one.0 in
      let next : suc c.loop.counter ≡ c.loop.counter + 1 = omega arith in
      (had.0, one.1 ∙ ap (λ (s : Counted). record s { dropped = one_more s.dropped LostAtRestart }) had.1 ∙ ap (λ (n : ℕ). with_lost n c.args.self.now.shares) next);
}
