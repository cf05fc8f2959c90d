use Rattle.std.proofs.Common.{◌≡◌, map}
use Rattle.place_buckets.specs.Groups.{hash_of, AreGrouped}
use Rattle.place_buckets.proofs.groups.refill.Given as goal

abbrev pub invariant-loop-i : goal.invariant-loop-i
invariant-loop-i l = AreGrouped l.groups l.links l.i × (map hash_of l.links ≡ map hash_of l.fn.links)
