use Rattle.maglev_table.proofs.Steps.{AreCounted}
use Rattle.rollout_plan.proofs.slots.counts_of.Given as goal

abbrev pub invariant-loop-owner : goal.invariant-loop-owner
invariant-loop-owner l = AreCounted l.counts.items l.owners l.backends l.owner-index
