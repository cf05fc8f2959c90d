use Rattle.std.proofs.Common.{◌≡◌, ◌+◌, ◌-◌, ◌%◌, ◌<◌, ◌∷◌, arith}
use Rattle.steering.specs.Steering.{ring_from, but}
use Rattle.steering.proofs.Tries.{but_home, but_other, tried}
use Rattle.steering.proofs.Steerer.next_other.Goals as goal

pub loop-preserved : goal.loop-preserved
loop-preserved c =
    let more : 0 < c.loop.self-inside.left = omega arith in record {
      some = c.loop.invariant.some;
      limit = c.loop.invariant.limit;
      below = c.loop.invariant.below;
      short = omega arith;
      counts = omega arith;
      workers = c.loop.invariant.workers;
      cursor = c.loop.invariant.cursor;
      at_home = c.loop.invariant.at_home;
      left = but_home c.loop.self-inside.workers c.loop.self-inside.home c.loop.self-inside.next c.loop.self-inside.left c.args.self.now.left more c.if-worker-self.false c.loop.invariant.left;
    }

pub returns-then-worker-self-clause-after : goal.returns-then-worker-self-clause-after
returns-then-worker-self-clause-after c =
    let more : 0 < c.loop.self-inside.left = omega arith in
    let e : c.loop.self-inside.next % c.loop.self-inside.workers ∷ but c.loop.self-inside.home (ring_from c.loop.self-inside.workers (c.loop.self-inside.next + 1) (c.loop.self-inside.left - 1)) ≡ c.args.self.now.left = but_other c.loop.self-inside.workers c.loop.self-inside.home c.loop.self-inside.next c.loop.self-inside.left c.args.self.now.left more c.if-worker-self.true c.loop.invariant.left in
    tried c.loop.self-inside.workers c.loop.self-inside.cursor (c.loop.self-inside.next % c.loop.self-inside.workers) c.loop.self-inside.at_home (but c.loop.self-inside.home (ring_from c.loop.self-inside.workers (c.loop.self-inside.next + 1) (c.loop.self-inside.left - 1))) c.args.self.now c.loop.invariant.workers c.loop.invariant.cursor c.loop.invariant.at_home e
