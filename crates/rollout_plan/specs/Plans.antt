-- Which text the command `plan` writes for a scenario's text, and when it gives up, by which fault.
use Rattle.std.specs.Prelude.{◌≡◌, ◌⊎◌, ℕ, Bool, true, false, ◌&&◌, List, Option, Some, None, is_some}
use Rattle.pool_versions.specs.declared.catalogue.PoolFault.TheVariants.{BadNumber}
use Rattle.pool_versions.specs.declared.service.Version.{Version}
use Rattle.pool_versions.specs.Pool.{version_at}
use Rattle.scenario.specs.declared.playing.Played.TheVariants.{NotAtAll}
use Rattle.scenario.specs.declared.plan.Scenario.{Scenario}
use Rattle.scenario.specs.Meaning.{Means}
use Rattle.scenario_faults.specs.Refusals.{ScenarioFails}
use Rattle.command_faults.specs.declared.fault.CliFault.{CliFault}
use Rattle.command_faults.specs.declared.fault.CliFault.TheVariants.{Pool, Write, Memory}
use Rattle.rollout_plan.specs.Tables.{rule_of}
use Rattle.json_lines.specs.declared.forms.Form.{Form}
use Rattle.json_lines.specs.declared.forms.Form.TheVariants.{Plain}
use Rattle.rollout_plan.specs.Forms.{plan_text_as, version_text_as}

-- a scenario's version of a number
abbrev pub version_in : Scenario → ℕ → Option Version
version_in s n = version_at n s.catalogue.versions

-- the text is what one version of a scenario has
pub record ShowsVersion (form : Form) (s : Scenario) (number : ℕ) (text : List ℕ) : Type 0 where
  pub version : Version
  pub of_number : version_in s number ≡ Some version
  pub is : text ≡ version_text_as form (rule_of s) version

-- the text is what changes from one version of a scenario to another
pub record ShowsChange (form : Form) (s : Scenario) (from to : ℕ) (text : List ℕ) : Type 0 where
  pub before : Version
  pub after : Version
  pub of_from : version_in s from ≡ Some before
  pub of_to : version_in s to ≡ Some after
  pub is : text ≡ plan_text_as form (rule_of s) before after

-- the text is what was asked of a scenario, in a form: of one version, or of two
abbrev pub ShowsAs : Form → Scenario → ℕ → Option ℕ → List ℕ → Type 0
ShowsAs form s from None text = ShowsVersion form s from text
ShowsAs form s from (Some to) text = ShowsChange form s from to text

-- the same of the scenario that a text means
pub record IsPlanAs (form : Form) (scenario : List ℕ) (from : ℕ) (to : Option ℕ) (text : List ℕ) : Type 0 where
  pub meant : Scenario
  pub means : Means NotAtAll scenario meant
  pub shows : ShowsAs form meant from to text

-- the same in lines for people
abbrev pub IsPlan : List ℕ → ℕ → Option ℕ → List ℕ → Type 0
IsPlan scenario from to text = IsPlanAs Plain scenario from to text

-- a scenario has the versions that are asked for
abbrev pub has_versions : Scenario → ℕ → Option ℕ → Bool
has_versions s from None = is_some (version_in s from)
has_versions s from (Some to) = is_some (version_in s from) && is_some (version_in s to)

-- what it is where a command over a scenario that was read ends by a fault: it lacks a version, or has all
abbrev pub AskedFails : CliFault → Bool → Type 0
AskedFails (Pool fault) has = (fault ≡ BadNumber) × (has ≡ false)
AskedFails Memory has = has ≡ true
AskedFails Write has = has ≡ true
AskedFails _ has = ⊥

-- a scenario was read, and then the command gave up
pub record ReadFails (fault : CliFault) (scenario : List ℕ) (from : ℕ) (to : Option ℕ) : Type 0 where
  pub meant : Scenario
  pub means : Means NotAtAll scenario meant
  pub why : AskedFails fault (has_versions meant from to)

-- when `plan` gives up, and by which fault
abbrev pub PlanFails : CliFault → List ℕ → ℕ → Option ℕ → Type 0
PlanFails fault scenario from to = ScenarioFails NotAtAll fault scenario ⊎ ReadFails fault scenario from to
