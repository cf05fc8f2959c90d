-- Which scenario a text means, and which fault it has, by how it is played.
use Rattle.std.specs.Prelude.{◌≡◌, ℕ, ◌≤◌, ◌<◌, ◌^◌, ◌&&◌, true, nat_le, if◌then◌else◌, List, [], map, length, Option, Some, None, option_and_then}
use Rattle.std.specs.Prelude.{option_map, Result, Ok, Err, IsUtf8, string_bytes, ⊤}
use Rattle.std.specs.List.{list_all}
use Rattle.toml.specs.Data.{Data, Members, as_str}
use Rattle.toml.specs.Parse.{parse_document}
use Rattle.maglev_texts.specs.Parsing.{address_of}
use Rattle.pool_versions.specs.declared.backend.Member.{Member}
use Rattle.pool_versions.specs.declared.catalogue.PoolFault.{PoolFault}
use Rattle.pool_versions.specs.declared.catalogue.PoolFault.TheVariants as pool
use Rattle.scenario_keys.specs.Lookups.{items_at, all_items, has_only}
use Rattle.scenario_keys.specs.Keys.{key_name, root_keys}
use Rattle.scenario_keys.specs.Formats.{format_of}
use Rattle.scenario_keys.specs.declared.key.Key.TheVariants as key
use Rattle.scenario.specs.Setup.{choices_of, limits_of}
use Rattle.version_drafts.specs.Plain.{PlainVersion, plain_version}
use Rattle.version_drafts.specs.Drafts.{PlainVersionDraft, plain_version_drafts}
use Rattle.version_drafts.specs.Reading.{versions_in}
use Rattle.scenario_pools.specs.Writing.{versions_of}
use Rattle.scenario_pools.specs.declared.fault.PoolsFault.{PoolsFault}
use Rattle.scenario_pools.specs.declared.fault.PoolsFault.TheVariants as written
use Rattle.scenario.specs.Limits.{AreLimits}
use Rattle.scenario_places.specs.Adding.{first_refused}
use Rattle.scenario.specs.Steps.{PlainStep, plain_timed, allows}
use Rattle.scenario.specs.Told.{steps_of}
use Rattle.scenario.specs.declared.playing.Played.{Played}
use Rattle.scenario_keys.specs.declared.formats.Format.{Format}
use Rattle.scenario.specs.declared.told.StepRules.{StepRules}
use Rattle.scenario.specs.declared.setup.Choices.{Choices}
use Rattle.scenario.specs.declared.setup.Limits.{Limits}
use Rattle.scenario.specs.declared.draft.Draft.{Draft}
use Rattle.scenario.specs.declared.fault.ScenarioFault.{ScenarioFault}
use Rattle.scenario.specs.declared.fault.ScenarioFault.TheVariants as fault
use Rattle.scenario.specs.declared.plan.Scenario.{Scenario}

-- a scenario whose words and steps may be none
pub record PlainDraft : Type 0 where
  pub choices : Choices
  pub limits : Limits
  pub nodes : List ℕ
  pub versions : List PlainVersionDraft
  pub steps : List (List ℕ)

abbrev pub plain_draft : Draft → PlainDraft
plain_draft d = record {
  choices = d.choices;
  limits = d.limits;
  nodes = d.nodes.items;
  versions = plain_version_drafts d.versions;
  steps = map string_bytes d.steps.items;
}

-- a scenario
pub record PlainScenario : Type 0 where
  pub choices : Choices
  pub limits : Limits
  pub nodes : List ℕ
  pub versions : List (PlainVersion Member)
  pub steps : List PlainStep

abbrev pub plan_view : Scenario → PlainScenario
plan_view s = record {
  choices = record { size = s.size; hash = s.hash; scheme = s.scheme; spread = s.spread };
  limits = record { workers = s.workers; capacity = s.capacity; ring = s.ring; check = s.check; idle = s.idle };
  nodes = s.nodes.items;
  versions = map plain_version s.catalogue.versions;
  steps = map plain_timed s.steps.items;
}

abbrev pub address_in : Data → Option ℕ
address_in d = option_and_then address_of (as_str d)

-- 1 to 64 of them
abbrev pub few_nodes : List ℕ → Option (List ℕ)
few_nodes ns = if nat_le 1 (length ns) && nat_le (length ns) 64 then Some ns else None

-- at most 100,000 of them
abbrev pub few_steps : List (List ℕ) → Option (List (List ℕ))
few_steps ts = if nat_le (length ts) 100000 then Some ts else None

abbrev pub nodes_of : Members → Option (List ℕ)
nodes_of ms = option_and_then few_nodes (option_and_then (all_items address_in) (items_at (key_name key.Nodes) ms))

abbrev pub steps_in : Members → Option (List (List ℕ))
steps_in ms = option_and_then few_steps (option_and_then (all_items as_str) (items_at (key_name key.Steps) ms))

-- what a document holds, where all its keys are as they should be
unfoldable pub draft_of : Format → Members → Option PlainDraft
draft_of f ms =
    option_and_then (λ choices. option_and_then (λ limits. option_and_then (λ nodes. option_and_then (λ versions. option_map (λ steps.
    record { choices = choices; limits = limits; nodes = nodes; versions = versions; steps = steps })
    (steps_in ms)) (versions_in f ms)) (nodes_of ms)) (limits_of ms)) (choices_of ms)

abbrev pub draft_in : Format → Members → Option PlainDraft
draft_in f ms = if has_only (root_keys f) ms then draft_of f ms else None

-- a fault of the versions as a scenario's
abbrev pub pools_refused : PoolsFault → ScenarioFault
pools_refused written.BadMember = fault.BadMember
pools_refused written.TooMany = fault.Pool pool.TooMany
pools_refused written.Memory = fault.Memory

-- what steps are read by
abbrev pub rules_of : Format → Played → PlainDraft → StepRules
rules_of f played d = record { format = f; played = played; nodes = length d.nodes; workers = d.limits.workers }

abbrev pub with_steps : PlainDraft → List (PlainVersion Member) → Result (List PlainStep) ℕ → Result PlainScenario ScenarioFault
with_steps d versions (Err n) = Err (fault.BadStep n)
with_steps d versions (Ok steps) = Ok (record { choices = d.choices; limits = d.limits; nodes = d.nodes; versions = versions; steps = steps })

abbrev pub with_pools : Format → Played → PlainDraft → List (PlainVersion Member) → Option PoolFault → Result PlainScenario ScenarioFault
with_pools f played d versions None = with_steps d versions (steps_of (rules_of f played d) 100000 d.steps)
with_pools f played d versions (Some e) = Err (fault.Pool e)

abbrev pub with_versions : Format → Played → PlainDraft → Result (List (PlainVersion Member)) PoolsFault → Result PlainScenario ScenarioFault
with_versions f played d (Err e) = Err (pools_refused e)
with_versions f played d (Ok versions) = with_pools f played d versions (first_refused d.choices.size [] versions)

-- the scenario of a draft of a format, or its first fault: that of the first version that has one, then one of the pools, then the first bad step
unfoldable pub plan_of_draft : Format → Played → PlainDraft → Result PlainScenario ScenarioFault
plan_of_draft f played d = with_versions f played d (versions_of d.versions)

abbrev pub with_draft : Format → Played → Option PlainDraft → Result PlainScenario ScenarioFault
with_draft f played None = Err fault.BadKey
with_draft f played (Some d) = plan_of_draft f played d

abbrev pub with_format : Played → Option Format → Members → Result PlainScenario ScenarioFault
with_format played None ms = Err fault.BadFormat
with_format played (Some f) ms = with_draft f played (draft_in f ms)

-- what a document says: a scenario that is played so, or its first fault
unfoldable pub plan_of : Played → Members → Result PlainScenario ScenarioFault
plan_of played ms = with_format played (format_of ms) ms

-- the text is a document whose members are these
pub record IsDocument (text : List ℕ) (ms : Members) : Type 0 where
  pub short : length text ≤ 2 ^ 20
  pub utf8 : IsUtf8 text
  pub parsed : parse_document text ≡ Some ms

-- the text means this scenario, which is played so
pub record Means (played : Played) (text : List ℕ) (s : Scenario) : Type 0 where
  pub members : Members
  pub document : IsDocument text members
  pub plan : plan_of played members ≡ Ok (plan_view s)
  pub sized : s.catalogue.size ≡ s.size

-- each step is one of a scenario that is played so: on threads none is a full, a hold or a drain
abbrev pub IsSupported : Played → Scenario → Type 0
IsSupported played s = list_all (λ p. allows played p) (map plain_timed s.steps.items) ≡ true

-- why a text is refused as a scenario that is played so
abbrev pub IsRefused : Played → List ℕ → ScenarioFault → Type 0
IsRefused played text fault.TooLong = 2 ^ 20 < length text
IsRefused played text fault.BadToml = (length text ≤ 2 ^ 20) × (IsUtf8 text → parse_document text ≡ None)
IsRefused played text fault.Memory = ⊤
IsRefused played text e = (ms : Members) × IsDocument text ms × (plan_of played ms ≡ Err e)

-- why a draft is refused
abbrev pub IsDraftRefused : Format → Played → PlainDraft → ScenarioFault → Type 0
IsDraftRefused f played d fault.Memory = ⊤
IsDraftRefused f played d e = plan_of_draft f played d ≡ Err e

-- why the versions of drafts are refused
abbrev pub AreVersionsRefused : List PlainVersionDraft → ScenarioFault → Type 0
AreVersionsRefused ds fault.Memory = ⊤
AreVersionsRefused ds fault.BadMember = versions_of ds ≡ Err written.BadMember
AreVersionsRefused ds (fault.Pool pool.TooMany) = versions_of ds ≡ Err written.TooMany
AreVersionsRefused ds e = ⊥

-- why steps are refused
abbrev pub AreStepsRefused : StepRules → List (List ℕ) → ScenarioFault → Type 0
AreStepsRefused rules texts fault.Memory = ⊤
AreStepsRefused rules texts (fault.BadStep n) = steps_of rules 100000 texts ≡ Err n
AreStepsRefused rules texts e = ⊥

-- a draft keeps the limits of a scenario
abbrev pub IsLimited : Draft → Type 0
IsLimited d = AreLimits d.limits.workers d.limits.capacity d.limits.ring (length d.nodes.items) (length d.steps.items)

-- a pool fault as a scenario's
abbrev pub pool_refused : PoolFault → ScenarioFault
pool_refused pool.Memory = fault.Memory
pool_refused f = fault.Pool f
