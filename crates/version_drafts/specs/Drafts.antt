-- Versions as a document holds them: each text is there, whatever it says.
use Rattle.std.specs.Prelude.{ℕ, List, [], map, Option, Some, None, option_map, Vec}
use Rattle.std.specs.declared.alloc.Global.{Global}
use Rattle.pool_versions.specs.declared.backend.Member.{Member}
use Rattle.pool_versions.specs.declared.key.ServiceKey.{ServiceKey}
use Rattle.version_drafts.specs.Plain.{PlainService, PlainVersion}
use Rattle.version_drafts.specs.declared.change.Change.{Change}
use Rattle.version_drafts.specs.declared.draft.ServiceDraft.{ServiceDraft}
use Rattle.version_drafts.specs.declared.draft.VersionDraft.{VersionDraft}

-- a service with members, or without: then changes of a base's service. Members and changes are words that may be none.
pub record PlainServiceDraft : Type 0 where
  pub vip : ℕ
  pub proto : ℕ
  pub port : ℕ
  pub members : Option (List (Option Member))
  pub changes : List (Option Change)

-- a version, with the number of its base if it has one, and changes of all the base's services
pub record PlainVersionDraft : Type 0 where
  pub number : ℕ
  pub base : Option ℕ
  pub changes : List (Option Change)
  pub services : List PlainServiceDraft

abbrev pub plain_service_draft : ServiceDraft → PlainServiceDraft
plain_service_draft s = record { vip = s.vip; proto = s.proto; port = s.port; members = option_map (λ v. v.items) s.members; changes = s.changes.items }

abbrev pub plain_service_drafts : Vec ServiceDraft Global → List PlainServiceDraft
plain_service_drafts v = map plain_service_draft v.items

abbrev pub plain_version_draft : VersionDraft → PlainVersionDraft
plain_version_draft v = record { number = v.number; base = v.base; changes = v.changes.items; services = map plain_service_draft v.services.items }

abbrev pub plain_version_drafts : Vec VersionDraft Global → List PlainVersionDraft
plain_version_drafts v = map plain_version_draft v.items

-- what distinguishes the service that a draft is for
abbrev pub draft_key : PlainServiceDraft → ServiceKey
draft_key d = record { vip = d.vip; proto = d.proto; port = d.port }

-- a service and a version as drafts without differences
abbrev pub whole_service : PlainService (Option Member) → PlainServiceDraft
whole_service s = record { vip = s.vip; proto = s.proto; port = s.port; members = Some s.members; changes = [] }

abbrev pub whole_version : PlainVersion (Option Member) → PlainVersionDraft
whole_version v = record { number = v.number; base = None; changes = []; services = map whole_service v.services }
