use Rattle.std.proofs.Common.{◌≡◌, ◌+◌, length, false}
use Rattle.place_buckets.specs.Groups.{Inside, next_at, hash_at, steps}
use Rattle.place_buckets.proofs.Seeking.{Left}
use Rattle.place_buckets.proofs.groups.find_in_chain.Given as goal

abbrev pub invariant-loop-place : goal.invariant-loop-place
invariant-loop-place g l = Left (next_at l.links) (length l.links) (λ p. (hash_at l.links p ≡ l.hash) × Inside (next_at l.links) (length l.links) p l.first) (λ p. goal.F-post g l.is_sought p false) l.place

abbrev pub decreases-loop-place : goal.decreases-loop-place
decreases-loop-place g l = steps (length l.links + 1) (next_at l.links) l.place
