-- What `table` and `compare` print of a scenario's service, and when they give up, by which fault.
use Rattle.std.specs.Prelude.{◌≡◌, ◌⊎◌, ℕ, ◌++◌, List, map, length, Option, Some, None, option_map, option_and_then}
use Rattle.std.specs.List.{flat_map, range_with_len}
use Rattle.pool_versions.specs.declared.backend.Backend.{Backend}
use Rattle.pool_versions.specs.declared.catalogue.PoolFault.TheVariants.{BadNumber}
use Rattle.pool_versions.specs.declared.key.ServiceKey.{ServiceKey}
use Rattle.pool_versions.specs.declared.service.Version.{Version}
use Rattle.pool_versions.specs.Pool.{key_of}
use Rattle.selection.specs.Picks.{NamedTable, slot_names}
use Rattle.scenario.specs.declared.playing.Played.TheVariants.{NotAtAll}
use Rattle.scenario.specs.declared.plan.Scenario.{Scenario}
use Rattle.scenario.specs.Meaning.{Means}
use Rattle.scenario_faults.specs.Refusals.{ScenarioFails}
use Rattle.command_faults.specs.declared.fault.CliFault.{CliFault}
use Rattle.command_faults.specs.declared.fault.CliFault.TheVariants.{Pool, BadService, Write, Memory}
use Rattle.json_lines.specs.declared.forms.Form.{Form}
use Rattle.table_commands.specs.Text.{head_line_as, slot_line_as, count_line_as}
use Rattle.table_commands.specs.Compare.{compare_text_as}
use Rattle.rollout_plan.specs.Counts.{slots_naming}
use Rattle.rollout_plan.specs.Plans.{version_in}
use Rattle.rollout_plan.specs.Tables.{rule_of, table_by}
use Rattle.rollout_plan.specs.Text.{members_under}
use Rattle.scenario_tables.specs.Services.{asked_key, keys_of_both}
use Rattle.scenario_tables.specs.declared.comparing.Change.{Change}

-- the name of the backend that a slot names
abbrev pub owner_name : Option Backend → Option (List ℕ)
owner_name None = None
owner_name (Some b) = Some b.name

-- the line of a slot, in a form
unfoldable pub owner_line_as : Form → NamedTable → ℕ → List ℕ
owner_line_as form t slot = slot_line_as form slot (owner_name (slot_names t.ups t.owners slot))

-- the line of a backend, with its slots
unfoldable pub share_line_as : Form → NamedTable → Backend → List ℕ
share_line_as form t b = count_line_as form b.name (slots_naming (Some b) t)

-- the text of a table: its size and how many share it, a line for each slot, and for each backend its slots
unfoldable pub slots_text_as : Form → NamedTable → List ℕ
slots_text_as form t = head_line_as form t.size (length t.ups) ++ (flat_map (owner_line_as form t) (range_with_len 0 t.size)
    ++ flat_map (share_line_as form t) t.ups)

-- the text, in a form, is that of the service's table under a version
pub record ShowsTable (form : Form) (s : Scenario) (number : ℕ) (word : Option (List ℕ)) (text : List ℕ) : Type 0 where
  pub version : Version
  pub key : ServiceKey
  pub of_number : version_in s number ≡ Some version
  pub of_word : asked_key word (map key_of version.services.items) ≡ Some key
  pub is : text ≡ slots_text_as form (table_by (rule_of s) (members_under key version))

-- the versions that are compared, and the word of the service
pub record Compared : Type 0 where
  pub from : ℕ
  pub to : ℕ
  pub word : Option (List ℕ)

abbrev pub compared : Change → Compared
compared c = record { from = c.from; to = c.to; word = option_map (λ w. w.now) c.service }

-- the text, in a form, is what changes for the service from one version to another; a version without it counts as one where it has no members
pub record ShowsMoves (form : Form) (s : Scenario) (c : Compared) (text : List ℕ) : Type 0 where
  pub before : Version
  pub after : Version
  pub key : ServiceKey
  pub of_from : version_in s c.from ≡ Some before
  pub of_to : version_in s c.to ≡ Some after
  pub of_word : asked_key c.word (keys_of_both before after) ≡ Some key
  pub is : text ≡ compare_text_as form (table_by (rule_of s) (members_under key before)) (table_by (rule_of s) (members_under key after))

-- which services there are to ask for: those of one version, or of two; None where a version is missing
abbrev pub keys_in : Option Version → Option (List ServiceKey)
keys_in found = option_map (λ v. map key_of v.services.items) found

abbrev pub keys_in_both : Scenario → Compared → Option (List ServiceKey)
keys_in_both s c = option_and_then (λ v. option_map (λ w. keys_of_both v w) (version_in s c.to)) (version_in s c.from)

-- what there is to ask for where a command gives up: no such version, no such service, or all that it needs
abbrev pub AskedFails : CliFault → Option (List ℕ) → Option (List ServiceKey) → Type 0
AskedFails (Pool fault) word keys = (fault ≡ BadNumber) × (keys ≡ None)
AskedFails BadService word keys = (found : List ServiceKey) × (keys ≡ Some found) × (asked_key word found ≡ None)
AskedFails Memory word keys = Unit {0}
AskedFails Write word keys = (found : List ServiceKey) × (key : ServiceKey) × (keys ≡ Some found) × (asked_key word found ≡ Some key)
AskedFails _ word keys = ⊥

-- the same of the scenario that a text means
pub record IsTable (form : Form) (scenario : List ℕ) (number : ℕ) (word : Option (List ℕ)) (text : List ℕ) : Type 0 where
  pub meant : Scenario
  pub means : Means NotAtAll scenario meant
  pub shows : ShowsTable form meant number word text

pub record AreMoves (form : Form) (scenario : List ℕ) (c : Compared) (text : List ℕ) : Type 0 where
  pub meant : Scenario
  pub means : Means NotAtAll scenario meant
  pub shows : ShowsMoves form meant c text

-- a scenario was read, and then the command gave up
pub record LacksAsked (fault : CliFault) (scenario : List ℕ) (word : Option (List ℕ)) (keys : Scenario → Option (List ServiceKey)) : Type 0 where
  pub meant : Scenario
  pub means : Means NotAtAll scenario meant
  pub why : AskedFails fault word (keys meant)

-- when the commands give up, and by which fault
abbrev pub TableFails : CliFault → List ℕ → ℕ → Option (List ℕ) → Type 0
TableFails fault scenario number word =
    ScenarioFails NotAtAll fault scenario ⊎ LacksAsked fault scenario word (λ s. keys_in (version_in s number))

abbrev pub MovesFail : CliFault → List ℕ → Compared → Type 0
MovesFail fault scenario c = ScenarioFails NotAtAll fault scenario ⊎ LacksAsked fault scenario c.word (λ s. keys_in_both s c)
