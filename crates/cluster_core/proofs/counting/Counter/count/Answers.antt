use Rattle.std.proofs.Common.{arith}
use Rattle.cluster_core.proofs.Bumps.{Roomy, roomy}
use Rattle.cluster_core.proofs.counting.Counter.count.Goals as goal

pub bump-requires-clause-room : goal.bump-requires-clause-room
bump-requires-clause-room c =
    let m : Roomy c.args.outcome.now c.args.self.now.kinds c.args.self.now.received c.args.self.now.lost = roomy c.args.outcome.now c.requires.0 c.requires.1 c.args.self.now.kinds c.args.self.now.received c.args.self.now.lost c.requires.2 c.requires.3 in
    rw (c.kind.ensures.kind) m.kinds

pub overflow_add-self : goal.overflow_add-self
overflow_add-self c =
    let m : Roomy c.args.outcome.now c.args.self.now.kinds c.args.self.now.received c.args.self.now.lost = roomy c.args.outcome.now c.requires.0 c.requires.1 c.args.self.now.kinds c.args.self.now.received c.args.self.now.lost c.requires.2 c.requires.3 in
    omega (arith, m.received, c.arrivals.ensures)
