-- What `pick` prints of a scenario's version, and when it gives up, by which fault.
use Rattle.std.specs.Prelude.{◌≡◌, ◌⊎◌, ℕ, Bool, List, Option, Some, None, is_some, true, IfSome}
use Rattle.hash_laws.specs.Any.{plain_of}
use Rattle.five_tuple.specs.declared.Flow.{Flow}
use Rattle.pool_versions.specs.declared.backend.Backend.{Backend}
use Rattle.pool_versions.specs.declared.catalogue.PoolFault.TheVariants.{BadNumber}
use Rattle.pool_versions.specs.declared.service.Service.{Service}
use Rattle.pool_versions.specs.declared.service.Version.{Version}
use Rattle.pool_versions.specs.Pool.{find_service}
use Rattle.selection.specs.Picks.{NamedTable, slot_names, slot_of_flow}
use Rattle.cluster_node.specs.declared.outcomes.Cause.TheVariants.{NoService, NoBackend}
use Rattle.cluster_node.specs.declared.packets.Packet.{Packet}
use Rattle.cluster_node.specs.declared.packets.Packet.TheVariants.{Good, Bad}
use Rattle.run_report.specs.Names.{cause_name}
use Rattle.scenario_keys.specs.declared.words.SchemeKind.TheVariants.{Maglev}
use Rattle.scenario.specs.declared.playing.Played.TheVariants.{NotAtAll}
use Rattle.scenario.specs.declared.plan.Scenario.{Scenario}
use Rattle.scenario.specs.Meaning.{Means}
use Rattle.scenario_faults.specs.Refusals.{ScenarioFails}
use Rattle.command_faults.specs.declared.fault.CliFault.{CliFault}
use Rattle.command_faults.specs.declared.fault.CliFault.TheVariants.{Pool, BadScheme}
use Rattle.json_lines.specs.declared.forms.Form.{Form}
use Rattle.table_commands.specs.Pick.{flow_text_as, drop_text_as, packet_of, IsHexOf, IsShort, InputFails}
use Rattle.rollout_plan.specs.declared.slots.TableRule.{TableRule}
use Rattle.rollout_plan.specs.Plans.{version_in}
use Rattle.rollout_plan.specs.Tables.{rule_of, table_by}

-- what is printed of a flow whose slot names somebody, or nobody
abbrev pub owner_text_as : Form → Flow → ℕ → Option Backend → List ℕ
owner_text_as form x slot None = drop_text_as form (cause_name NoBackend)
owner_text_as form x slot (Some b) = flow_text_as form x slot b.name

-- of a flow in a table
abbrev pub table_text_as : Form → NamedTable → Flow → ℕ → List ℕ
table_text_as form t x slot = owner_text_as form x slot (slot_names t.ups t.owners slot)

-- of a flow that a service is for, or none
abbrev pub service_text_as : Form → TableRule → Flow → Option Service → List ℕ
service_text_as form rule x None = drop_text_as form (cause_name NoService)
service_text_as form rule x (Some s) = table_text_as form (table_by rule s.members.items) x (slot_of_flow (plain_of rule.hash) rule.size x)

-- of a datagram under a version
abbrev pub packet_text_as : Form → TableRule → Version → Packet → List ℕ
packet_text_as form rule v (Good x _ _) = service_text_as form rule x (find_service x v.services.items)
packet_text_as form rule v (Bad cause) = drop_text_as form (cause_name cause)

-- the text, in a form, is that of the datagram that the input has, where the input tells it
pub record ShowsPick (form : Form) (s : Scenario) (number : ℕ) (check : Bool) (input : Option (List ℕ)) (text : List ℕ) : Type 0 where
  pub version : Version
  pub bytes : List ℕ
  pub of_scheme : s.scheme ≡ Maglev
  pub of_number : version_in s number ≡ Some version
  pub of_input : IfSome input (IsHexOf bytes)
  pub short : IsShort input
  pub is : text ≡ packet_text_as form (rule_of s) version (packet_of check bytes)

-- what there is where a command gives up: another scheme, no such version, or an input that isn't a datagram's
abbrev pub AskedFails : CliFault → Scenario → ℕ → Option (List ℕ) → Type 0
AskedFails BadScheme s number input = s.scheme ≡ Maglev → ⊥
AskedFails (Pool fault) s number input = (s.scheme ≡ Maglev) × (fault ≡ BadNumber) × (version_in s number ≡ None)
AskedFails fault s number input = (s.scheme ≡ Maglev) × (is_some (version_in s number) ≡ true) × InputFails fault input

-- the same of the scenario that a text means
pub record IsPick (form : Form) (scenario : List ℕ) (number : ℕ) (check : Bool) (input : Option (List ℕ)) (text : List ℕ) : Type 0 where
  pub meant : Scenario
  pub means : Means NotAtAll scenario meant
  pub shows : ShowsPick form meant number check input text

-- a scenario was read, and then the command gave up
pub record LacksPick (fault : CliFault) (scenario : List ℕ) (number : ℕ) (input : Option (List ℕ)) : Type 0 where
  pub meant : Scenario
  pub means : Means NotAtAll scenario meant
  pub why : AskedFails fault meant number input

-- when `pick` gives up, and by which fault
abbrev pub PickFails : CliFault → List ℕ → ℕ → Option (List ℕ) → Type 0
PickFails fault scenario number input = ScenarioFails NotAtAll fault scenario ⊎ LacksPick fault scenario number input
