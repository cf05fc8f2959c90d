use Rattle.std.proofs.Common.{arith}
use Rattle.cluster_core.proofs.Bumps.{Waits, waits}
use Rattle.cluster_core.proofs.counting.Counter.waiting.Goals as goal

pub overflow_add-result : goal.overflow_add-result
overflow_add-result c =
    let w : Waits c.requires.0 c.args.self.now.kinds c.args.self.now.lost = waits c.requires.0 c.args.self.now.kinds c.args.self.now.received c.args.self.now.lost c.requires.3 in
    omega (arith, w.went, w.few, c.requires.1.few, c.requires.2, c.of-2.ensures, c.of-3.ensures)

pub overflow_add-result-2 : goal.overflow_add-result-2
overflow_add-result-2 c =
    let w : Waits c.requires.0 c.args.self.now.kinds c.args.self.now.lost = waits c.requires.0 c.args.self.now.kinds c.args.self.now.received c.args.self.now.lost c.requires.3 in
    omega (arith, w.went, w.few, c.requires.1.few, c.requires.2, c.of-2.ensures, c.of-3.ensures, c.of-4.ensures)

pub overflow_add-result-3 : goal.overflow_add-result-3
overflow_add-result-3 c =
    let w : Waits c.requires.0 c.args.self.now.kinds c.args.self.now.lost = waits c.requires.0 c.args.self.now.kinds c.args.self.now.received c.args.self.now.lost c.requires.3 in
    omega (arith, w.went, w.few, c.requires.1.few, c.requires.2, c.of-2.ensures, c.of-3.ensures, c.of-4.ensures)

pub overflow_sub-result : goal.overflow_sub-result
overflow_sub-result c =
    let w : Waits c.requires.0 c.args.self.now.kinds c.args.self.now.lost = waits c.requires.0 c.args.self.now.kinds c.args.self.now.received c.args.self.now.lost c.requires.3 in
    omega (arith, w.went, w.came, c.requires.2, c.of.ensures, c.of-2.ensures, c.of-3.ensures, c.of-4.ensures)

pub returns : goal.returns
returns c = λ all h.
    let v : Waits c.requires.0 c.args.self.now.kinds c.args.self.now.lost = waits c.requires.0 c.args.self.now.kinds c.args.self.now.received c.args.self.now.lost c.requires.3 in
    let w : Waits all c.args.self.now.kinds c.args.self.now.lost = waits all c.args.self.now.kinds c.args.self.now.received c.args.self.now.lost h in
    omega (arith, w.went, w.came, v.went, v.came, c.requires.2, c.of.ensures, c.of-2.ensures, c.of-3.ensures, c.of-4.ensures)
