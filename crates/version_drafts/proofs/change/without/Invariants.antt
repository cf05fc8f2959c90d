use Rattle.std.proofs.Common.{◌≡◌, ◌++◌, drop, filter, not}
use Rattle.version_drafts.specs.Changes.{is_of}
use Rattle.version_drafts.proofs.change.without.Given as goal

abbrev pub invariant-loop-member : goal.invariant-loop-member
invariant-loop-member l = l.others.items ++ filter (λ m. not (is_of l.name m)) (drop l.member-index l.members) ≡ filter (λ m. not (is_of l.name m)) l.members
