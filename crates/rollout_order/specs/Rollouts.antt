-- Which servers leave between two versions, and which join.
use Rattle.std.specs.Prelude.{◌≡◌, ℕ, Bool, not, ◌&&◌, if◌then◌else◌, List, [], ◌∷◌, ◌++◌, map, filter, nat_eq}
use Rattle.std.specs.Cmp.Lexicographic.{pointwise}
use Rattle.std.specs.List.{flat_map, list_any}
use Rattle.pool_versions.specs.declared.backend.Backend.{Backend}
use Rattle.pool_versions.specs.declared.backend.Member.{Member}
use Rattle.pool_versions.specs.declared.service.Service.{Service}
use Rattle.pool_versions.specs.declared.service.Version.{Version}
use Rattle.pool_versions.specs.Pool.{key_of, ups}
use Rattle.selection.specs.Readied.{same_backend}
use Rattle.rollout_plan.specs.declared.slots.TableRule.{TableRule}
use Rattle.rollout_plan.specs.Text.{members_under, services_gone}
use Rattle.rollout_order.specs.declared.rollout.Change.{Change}
use Rattle.rollout_order.specs.declared.rollout.Rollout.{Rollout}

-- a service's members before and after
pub record PlainChange : Type 0 where
  pub before : List Member
  pub after : List Member

abbrev pub plain_change : Change → PlainChange
plain_change c = record { before = c.before.items; after = c.after.items }

abbrev pub kept_change : Version → Service → PlainChange
kept_change before s = record { before = members_under (key_of s) before; after = s.members.items }

abbrev pub gone_change : Service → PlainChange
gone_change s = record { before = s.members.items; after = [] }

-- of each service that `plan` has a block of, in the order of the blocks
abbrev pub changes : Version → Version → List PlainChange
changes before after = map (kept_change before) after.services.items ++ map gone_change (services_gone before.services.items after)

-- a member is up, and its backend, by name and address, isn't up among the others
abbrev pub is_lost : List Member → Member → Bool
is_lost others m = m.up && not (list_any (same_backend m.backend) (ups others))

abbrev pub lost : List Member → List Member → List Member
lost ms others = filter (is_lost others) ms

abbrev pub leaving : Change → List Member
leaving c = lost c.before.items c.after.items

abbrev pub joining : Change → List Member
joining c = lost c.after.items c.before.items

-- one more name, unless it is there
abbrev pub with_name : List (List ℕ) → List ℕ → List (List ℕ)
with_name names name = if list_any (λ n. pointwise nat_eq n name) names then names else names ++ name ∷ []

-- the names of backends behind others, each once
abbrev pub names_behind : List (List ℕ) → List Backend → List (List ℕ)
names_behind names [] = names
names_behind names (b ∷ bs) = names_behind (with_name names b.name) bs

-- the names of some members that are up, ascending, each once
abbrev pub names_of : List Member → List (List ℕ)
names_of ms = names_behind [] (ups ms)

-- the servers that leave a service, by name
abbrev pub leavers : List Change → List (List ℕ)
leavers cs = names_of (flat_map leaving cs)

-- those that join one
abbrev pub joiners : List Change → List (List ℕ)
joiners cs = names_of (flat_map joining cs)

-- what is replaced between two versions
pub record IsRollout (rule : TableRule) (before after : Version) (r : Rollout) : Type 0 where
  pub ruled : r.rule ≡ rule
  pub changed : map plain_change r.changes.items ≡ changes before after
  pub left : r.leavers.items ≡ leavers r.changes.items
  pub joined : r.joiners.items ≡ joiners r.changes.items
