use Rattle.std.proofs.Common.{◌-◌, drop, length}
use Rattle.std.specs.HashMap.{get}
use Rattle.pool_versions.specs.Pool.{same_key}
use Rattle.selection.specs.Places.{ArePlaced}
use Rattle.selection.proofs.prepared.places_of.Given as goal

abbrev pub invariant-loop-behind : goal.invariant-loop-behind
invariant-loop-behind g l = ArePlaced (get same_key l.places) (drop (length l.services - l.behind) l.services)
