use Rattle.std.proofs.Common.{◌<◌, ◌≤◌, ℕ, get_or}
use Rattle.pool_versions.specs.declared.backend.Member.{Member}
use Rattle.pool_versions.proofs.service.weigh.Given as goal

abbrev pub invariant-loop-member : goal.invariant-loop-member
invariant-loop-member l = (k : ℕ) (d : Member) → k < l.member-index → (1 ≤ (get_or l.members k d).weight) × ((get_or l.members k d).weight ≤ 16)
