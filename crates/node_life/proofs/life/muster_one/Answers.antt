use Rattle.std.proofs.Common.{◌++◌, List, sym, subst}
use Rattle.cluster_node.specs.declared.outcomes.Outcome.{Outcome}
use Rattle.thread_roles.specs.Counts.{Counts}
use Rattle.node_life.proofs.life.muster_one.Goals as goal

pub returns-clause-counts : goal.returns-clause-counts
returns-clause-counts g c = λ os n had.
    c.keep.ensures.counts os n (subst (λ (l : List Outcome). Counts c.args.tally.now.lost c.args.tally.now.shares (os ++ l)) (sym (c.in_ok-filled.ensures.counts n)) had)
