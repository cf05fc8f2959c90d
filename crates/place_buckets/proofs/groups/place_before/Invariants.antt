use Rattle.std.proofs.Common.{◌+◌, length}
use Rattle.place_buckets.specs.Groups.{next_at, steps}
use Rattle.place_buckets.proofs.Seeking.{Nearing}
use Rattle.place_buckets.proofs.groups.place_before.Given as goal

abbrev pub invariant-loop-first : goal.invariant-loop-first
invariant-loop-first l = Nearing (next_at l.links) (length l.links) l.place l.first l.before

abbrev pub decreases-loop-first : goal.decreases-loop-first
decreases-loop-first l = steps (length l.links + 1) (next_at l.links) l.before
