-- Differences are written out.
use Rattle.std.specs.Prelude.{◌≡◌, true, List, map, Option, Some, Ok}
use Rattle.std.specs.Option.{ok_or}
use Rattle.pool_versions.specs.declared.backend.Member.{Member}
use Rattle.scenario_keys.specs.Lookups.{all_of}
use Rattle.version_drafts.specs.Plain.{PlainService, PlainVersion, version_of}
use Rattle.version_drafts.specs.Drafts.{PlainVersionDraft, whole_version}
use Rattle.toml.specs.Data.{Members}
use Rattle.scenario_keys.specs.Keys.{has}
use Rattle.scenario_keys.specs.declared.formats.Format.{Format}
use Rattle.scenario_keys.specs.declared.formats.Format.TheVariants.{Three}
use Rattle.version_drafts.specs.Reading.{versions_in}
use Rattle.scenario_pools.specs.Writing.{versions_of}
use Rattle.scenario_pools.specs.declared.fault.PoolsFault.TheVariants as fault

-- drafts without differences mean the versions whose words are all members
abbrev pub WholeVersionsAreStated : Type 0
WholeVersionsAreStated = (vs : List (PlainVersion (Option Member))) → versions_of (map whole_version vs) ≡ ok_or (all_of version_of vs) fault.BadMember

-- a version as words
abbrev pub service_words : PlainService Member → PlainService (Option Member)
service_words s = record { vip = s.vip; proto = s.proto; port = s.port; members = map (λ m. Some m) s.members }

abbrev pub version_words : PlainVersion Member → PlainVersion (Option Member)
version_words v = record { number = v.number; services = map service_words v.services }

-- the versions that drafts mean are those that the drafts written out mean
abbrev pub DifferencesAreWrittenOut : Type 0
DifferencesAreWrittenOut = (ds : List PlainVersionDraft) (vs : List (PlainVersion Member)) → versions_of ds ≡ Ok vs
    → versions_of (map (λ v. whole_version (version_words v)) vs) ≡ Ok vs

-- the versions that a document means in format 1 or 2 it means in each later format too
abbrev pub VersionsMeanTheSame : Type 0
VersionsMeanTheSame = (f g : Format) → (f ≡ Three → ⊥) → ((since : Format) → has f since ≡ true → has g since ≡ true)
    → (ms : Members) (ds : List PlainVersionDraft) (vs : List (PlainVersion Member))
    → versions_in f ms ≡ Some ds → versions_of ds ≡ Ok vs → versions_in g ms ≡ Some ds
