-- How many backends are up.
use Rattle.std.proofs.Common.{◌≡◌, ℕ, false, List, length, filter, count_by, ◌∙◌, arith}
use Rattle.std.specs.List.{list_any}
use Rattle.std.proofs.lemmas.Bool.{le-ltb}
use Rattle.std.proofs.lemmas.List.{length-map}
use Rattle.std.proofs.lemmas.List.Elements.{All-weaker}
use Rattle.std.proofs.lemmas.List.Folds.{list_any_none}
use Rattle.std.proofs.lemmas.List.Sums.{length-filter}
use Rattle.std.proofs.lemmas.List.Sorted.{length_permutation}
use Rattle.pool_versions.specs.declared.backend.Member.{Member}
use Rattle.pool_versions.specs.declared.service.Version.{Version}
use Rattle.pool_versions.specs.Pool.{ups, IsWithinLimits, HasFewMembers}
use Rattle.pool_versions.proofs.Ascending.{ups_permute, ups_are_members}
use Rattle.selection.specs.Readied.{has_more_ups}

pub length_ups : (ms : List Member) → length (ups ms) ≡ count_by (λ m. m.up) ms
length_ups ms =
    length_permutation _ _ (ups_permute ms) ∙ length-map (filter (λ (m : Member). m.up) ms) (λ m. m.backend) ∙ length-filter (λ (m : Member). m.up) ms

-- a version that keeps the limits is never refused
pub kept_limits_fit : (size : ℕ) (v : Version) → IsWithinLimits size v → list_any (has_more_ups size) v.services.items ≡ false
kept_limits_fit size v kept =
    list_any_none (has_more_ups size) v.services.items
    (All-weaker (HasFewMembers size) (λ s. has_more_ups size s ≡ false) (λ s few. le-ltb size (length (ups s.members.items)) (omega (arith, few.fit, ups_are_members s.members.items))) v.services.items kept.members)
