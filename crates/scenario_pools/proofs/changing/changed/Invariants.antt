use Rattle.std.proofs.Common.{◌≡◌, drop}
use Rattle.scenario_pools.specs.Changes.{changed}
use Rattle.scenario_pools.specs.BadWords.{bad_change}
use Rattle.scenario_pools.proofs.changing.changed.Given as goal

abbrev pub invariant-loop-n : goal.invariant-loop-n
invariant-loop-n l =
    (changed (drop l.n l.changes) l.members.items ≡ changed l.changes l.fn.members)
    × (bad_change l.n (drop l.n l.changes) l.members.items ≡ bad_change 0 l.changes l.fn.members)
