use Rattle.std.proofs.Common.{◌<◌, ◌+◌, ◌^◌, get_or, arith}
use Rattle.cluster_core.proofs.Bumps.{all_drops, last_room}
use Rattle.cluster_core.proofs.counting.Counter.drops.Goals as goal

pub overflow_add-result : goal.overflow_add-result
overflow_add-result c =
    let room : get_or c.args.self.now.kinds 13 0 + c.args.self.now.lost < 2 ^ 64 = last_room c.requires.0 c.args.self.now.kinds c.args.self.now.received c.args.self.now.lost c.requires.1 c.requires.2 c.requires.3 in
    omega (arith, c.of-13.ensures)

pub returns : goal.returns
returns c = λ all h. rw (c.of.ensures, c.of-2.ensures, c.of-3.ensures, c.of-4.ensures, c.of-5.ensures, c.of-6.ensures, c.of-7.ensures, c.of-8.ensures, c.of-9.ensures, c.of-10.ensures, c.of-11.ensures, c.of-12.ensures, c.of-13.ensures) (all_drops all c.args.self.now.kinds c.args.self.now.received c.args.self.now.lost h)
