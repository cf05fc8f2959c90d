use Rattle.std.proofs.Common.{◌≡◌, drop}
use Rattle.selection.specs.PrivateHalves.{is_at_head}
use Rattle.selection.proofs.by_name.is_at_head.Given as goal

abbrev pub invariant-loop-other : goal.invariant-loop-other
invariant-loop-other l = is_at_head l.backend (drop l.other-index l.ups) ≡ is_at_head l.backend l.ups
