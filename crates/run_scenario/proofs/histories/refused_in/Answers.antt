use Rattle.std.proofs.Common.{◌≡◌, ◌+◌, take, arith}
use Rattle.std.specs.Prelude.{if◌then◌else◌}
use Rattle.cluster_core.specs.OutcomeCounts.{is_refused, how_many}
use Rattle.cluster_node.specs.declared.outcomes.Outcome.TheVariants.{Installed}
use Rattle.run_scenario.proofs.OneByOne.{many_at}
use Rattle.run_scenario.proofs.histories.refused_in.Goals as goal
use Rattle.run_scenario.proofs.histories.refused_in.Goals.{then-is_refused_at, else-is_refused_at}

pub loop-at-preserved : goal.loop-at-preserved
loop-at-preserved c =
    let i = c.loop-at.at in
    let all = c.args.outcomes.now.items in
    let more : how_many (λ o. is_refused o) (take (i + 1) all) ≡ how_many (λ o. is_refused o) (take i all) + (if c.is_refused_at.result then 1 else 0) =
    many_at (λ o. is_refused o) all i Installed c.is_refused_at.result (omega (arith, c.loop-at-test.true, c.len-at-end.ensures)) c.is_refused_at.ensures in
    elim c.if-is_refused_at.branch [
      | then-is_refused_at w ↦ (
          let one : how_many (λ o. is_refused o) (take (i + 1) all) ≡ how_many (λ o. is_refused o) (take i all) + 1 = rw w.if-is_refused_at.true at more in
          (omega (arith, w.refused-is, c.loop-at.invariant.0, one), omega (arith, w.refused-is, c.loop-at.invariant.1)))
      | else-is_refused_at w ↦ (
          let one : how_many (λ o. is_refused o) (take (i + 1) all) ≡ how_many (λ o. is_refused o) (take i all) + 0 = rw w.if-is_refused_at.false at more in
          (omega (arith, w.refused-is, c.loop-at.invariant.0, one), omega (arith, w.refused-is, c.loop-at.invariant.1)))
    ]
