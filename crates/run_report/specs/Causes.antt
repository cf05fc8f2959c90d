-- Why a flow was split.
use Rattle.std.specs.Prelude.{◌&&◌, ◌||◌, nat_le, nat_lt, ℕ, Bool, false, List, Option, Some, None, if◌then◌else◌}
use Rattle.std.specs.List.{list_any, sum_by}
use Rattle.five_tuple.specs.declared.Flow.{Flow}
use Rattle.pool_versions.specs.declared.backend.Backend.{Backend}
use Rattle.pool_versions.specs.declared.backend.Member.{Member}
use Rattle.pool_versions.specs.declared.service.Service.{Service}
use Rattle.pool_versions.specs.declared.service.Version.{Version}
use Rattle.pool_versions.specs.Pool.{Pools, is_draining}
use Rattle.selection.specs.Candidates.{Candidates, candidates_of, candidates_under}
use Rattle.selection.specs.Picks.{slot_of_flow}
use Rattle.selection.specs.Readied.{same_backend, keeps}
use Rattle.run_report.specs.declared.cause.SplitCause.{SplitCause}
use Rattle.run_report.specs.declared.cause.SplitCause.TheVariants.{Down, Moved, Drained}
use Rattle.run_report.specs.declared.sending.Split.{Split}

-- What splits are described by: the slots of flows, who is up or drains for a flow under a version (None: no service), and
-- the versions.
pub record Lookups : Type 0 where
  pub slot : Flow → ℕ
  pub ups : ℕ → Flow → Option Candidates
  pub versions : List Version

-- by the plain hash of flows, the tables' size and the catalogue
abbrev pub lookups_of : (List ℕ → ℕ) → ℕ → Pools → Lookups
lookups_of plain size pools = record { slot = λ x. slot_of_flow plain size x; ups = λ v x. candidates_of pools v x; versions = pools.versions }

-- a backend is up or drains
abbrev pub is_kept_among : Backend → Option Candidates → Bool
is_kept_among b None = false
is_kept_among b (Some ups) = keeps b ups

-- the first send's backend is up or drains for the flow under the version of the later serving
abbrev pub is_still_kept : Lookups → Split → Bool
is_still_kept lookups p = is_kept_among p.first.backend (lookups.ups p.later.version p.later.flow)

-- a backend drains
abbrev pub drains_among : Backend → Option Candidates → Bool
drains_among b None = false
drains_among b (Some ups) = list_any (same_backend b) ups.draining

-- a version is the one under which the first send's backend was chosen or one above it, and below that of the later serving
abbrev pub is_between : Split → Version → Bool
is_between p v = nat_le p.first.origin v.number && nat_lt v.number p.later.version

-- under such a version the first send's backend drains for the flow
abbrev pub drains_between : Split → Version → Bool
drains_between p v = is_between p v && drains_among p.first.backend (candidates_under v p.later.flow)

-- the first send's backend left after it had drained
abbrev pub has_drained : Lookups → Split → Bool
has_drained lookups p = list_any (drains_between p) lookups.versions

abbrev pub cause_of : Lookups → Split → SplitCause
cause_of lookups p = if is_still_kept lookups p then Moved else (if has_drained lookups p then Drained else Down)

-- how many splits have each cause
abbrev pub down_one : SplitCause → ℕ
down_one Down = 1
down_one Moved = 0
down_one Drained = 0

abbrev pub moved_one : SplitCause → ℕ
moved_one Down = 0
moved_one Moved = 1
moved_one Drained = 0

abbrev pub drained_one : SplitCause → ℕ
drained_one Down = 0
drained_one Moved = 0
drained_one Drained = 1

abbrev pub down_count : Lookups → List Split → ℕ
down_count lookups ps = sum_by (λ p. down_one (cause_of lookups p)) ps

abbrev pub moved_count : Lookups → List Split → ℕ
moved_count lookups ps = sum_by (λ p. moved_one (cause_of lookups p)) ps

abbrev pub drained_count : Lookups → List Split → ℕ
drained_count lookups ps = sum_by (λ p. drained_one (cause_of lookups p)) ps

-- somebody drains in a service, in a version, in some version
abbrev pub drains_in_service : Service → Bool
drains_in_service s = list_any is_draining s.members.items

abbrev pub drains_in_version : Version → Bool
drains_in_version v = list_any drains_in_service v.services.items

abbrev pub does_anybody_drain : List Version → Bool
does_anybody_drain vs = list_any drains_in_version vs

-- a member is up or drains, and is this backend by name and address
abbrev pub is_kept_member : Backend → Member → Bool
is_kept_member b m = (m.up || m.draining) && same_backend b m.backend

-- a member drains, and is this backend
abbrev pub is_draining_member : Backend → Member → Bool
is_draining_member b m = is_draining m && same_backend b m.backend
