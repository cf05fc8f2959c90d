-- Whether a backend is kept or drains, by the members of a service.
use Rattle.std.proofs.Common.{◌≡◌, Bool, true, false, List, [], ◌∷◌, Some, refl, sym, ap, ◌∙◌, not, inl, inr}
use Rattle.std.specs.Prelude.{option_map, ◌||◌, ◌&&◌, if◌then◌else◌}
use Rattle.std.specs.List.{list_any}
use Rattle.std.proofs.lemmas.Bool.{false_from_ne_true, both_ways, and_parts, or_cases, or_left, or_right}
use Rattle.five_tuple.specs.declared.Flow.{Flow}
use Rattle.pool_versions.specs.declared.backend.Backend.{Backend}
use Rattle.pool_versions.specs.declared.backend.Member.{Member}
use Rattle.pool_versions.specs.declared.service.Service.{Service}
use Rattle.pool_versions.specs.declared.service.Version.{Version}
use Rattle.pool_versions.specs.Pool.{is_draining, draining_backends, ups, serves, find_service}
use Rattle.selection.specs.Candidates.{candidates_in, candidates_under}
use Rattle.selection.specs.Readied.{same_backend, keeps}
use Rattle.cluster_core.proofs.Draining.{in_order_any}
use Rattle.run_report.specs.declared.sending.Split.{Split}
use Rattle.run_report.specs.Causes.{is_kept_member, is_draining_member, drains_among, drains_between, is_between, drains_in_service, drains_in_version, does_anybody_drain}

either_one : (up draining same ups drains : Bool) → (((up || draining) && same) || (ups || drains)) ≡ (((up && same) || ups) || ((not up && draining && same) || drains))
either_one true true true u d = refl
either_one true false true u d = refl
either_one false true true true d = refl
either_one false true true false d = refl
either_one false false true u d = refl
either_one true draining false u d = refl
either_one false true false u d = refl
either_one false false false u d = refl

kept_or_draining : (b : Backend) (ms : List Member) → list_any (is_kept_member b) ms ≡ (list_any (λ m. m.up && same_backend b m.backend) ms || list_any (is_draining_member b) ms)
kept_or_draining b [] = refl
kept_or_draining b (m ∷ ms) =
    ap (λ (t : Bool). is_kept_member b m || t) (kept_or_draining b ms)
    ∙ either_one m.up m.draining (same_backend b m.backend) (list_any (λ m. m.up && same_backend b m.backend) ms) (list_any (is_draining_member b) ms)

pub draining_members_are : (b : Backend) (ms : List Member) → list_any (is_draining_member b) ms ≡ list_any (same_backend b) (draining_backends ms)
draining_members_are b ms = sym (in_order_any is_draining b ms)

pub kept_members_are : (b : Backend) (ms : List Member) → list_any (is_kept_member b) ms ≡ keeps b (candidates_in ms)
kept_members_are b ms =
    kept_or_draining b ms
    ∙ ap (λ (t : Bool). t || list_any (is_draining_member b) ms) (sym (in_order_any (λ m. m.up) b ms))
    ∙ ap (λ (t : Bool). list_any (same_backend b) (ups ms) || t) (draining_members_are b ms)

-- ---- where nobody drains

some_drain : (b : Backend) (ms : List Member) → list_any (is_draining_member b) ms ≡ true → list_any is_draining ms ≡ true
some_drain b [] h = h
some_drain b (m ∷ ms) h = elim (or_cases (is_draining_member b m) (list_any (is_draining_member b) ms) h) [
  | inl here ↦ or_left (is_draining m) (list_any is_draining ms) (and_parts (is_draining m) (same_backend b m.backend) here).0
  | inr later ↦ or_right (is_draining m) (list_any is_draining ms) (some_drain b ms later)
]

drains_here : (x : Flow) (b : Backend) (ss : List Service) → drains_among b (option_map (λ (s : Service). candidates_in s.members.items) (find_service x ss)) ≡ true → list_any drains_in_service ss ≡ true
drains_here x b [] h = h
drains_here x b (s ∷ ss) h = go (serves x s) h (drains_here x b ss)
  where
    go : (t : Bool) → drains_among b (option_map (λ (s : Service). candidates_in s.members.items) (if t then Some s else find_service x ss)) ≡ true
        → (drains_among b (option_map (λ (s : Service). candidates_in s.members.items) (find_service x ss)) ≡ true → list_any drains_in_service ss ≡ true)
        → list_any drains_in_service (s ∷ ss) ≡ true
    go true k later = or_left (drains_in_service s) (list_any drains_in_service ss) (some_drain b s.members.items (draining_members_are b s.members.items ∙ k))
    go false k later = or_right (drains_in_service s) (list_any drains_in_service ss) (later k)

some_version_drains : (p : Split) (vs : List Version) → list_any (drains_between p) vs ≡ true → does_anybody_drain vs ≡ true
some_version_drains p [] h = h
some_version_drains p (v ∷ vs) h = elim (or_cases (drains_between p v) (list_any (drains_between p) vs) h) [
  | inl here ↦ or_left (drains_in_version v) (does_anybody_drain vs) (drains_here p.later.flow p.first.backend v.services.items (and_parts (is_between p v) (drains_among p.first.backend (candidates_under v p.later.flow)) here).1)
  | inr later ↦ or_right (drains_in_version v) (does_anybody_drain vs) (some_version_drains p vs later)
]

pub nobody_has_drained : (p : Split) (vs : List Version) → does_anybody_drain vs ≡ false → list_any (drains_between p) vs ≡ false
nobody_has_drained p vs none = false_from_ne_true (list_any (drains_between p) vs) (λ yes. both_ways (does_anybody_drain vs) none (some_version_drains p vs yes))
