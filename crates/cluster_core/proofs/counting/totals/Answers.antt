use Rattle.std.proofs.Common.{arith}
use Rattle.cluster_core.proofs.Bumps.{fitting}
use Rattle.cluster_core.proofs.counting.totals.Goals as goal

pub counted-requires : goal.counted-requires
counted-requires c = fitting c.args.outcomes.now (omega (arith, c.length_of-length.ensures, c.length_of-length.type_inv)) c.requires

pub returns-clause-law : goal.returns-clause-law
returns-clause-law c = (c.totals.ensures c.args.outcomes.now c.counted.ensures).law
