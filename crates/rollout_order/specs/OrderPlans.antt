-- Which text `plan --order` writes for a scenario's text.
use Rattle.std.specs.Prelude.{◌≡◌, ℕ, List, Some}
use Rattle.pool_versions.specs.declared.service.Version.{Version}
use Rattle.scenario.specs.declared.playing.Played.TheVariants.{NotAtAll}
use Rattle.scenario.specs.declared.plan.Scenario.{Scenario}
use Rattle.scenario.specs.Meaning.{Means}
use Rattle.json_lines.specs.declared.forms.Form.{Form}
use Rattle.rollout_plan.specs.Tables.{rule_of}
use Rattle.rollout_plan.specs.Plans.{version_in}
use Rattle.rollout_order.specs.declared.rollout.Rollout.{Rollout}
use Rattle.rollout_order.specs.Rollouts.{IsRollout}
use Rattle.rollout_order.specs.Text.{IsOrdersText}

-- the text, in a form, is that of the orders from one version of a scenario to another
pub record ShowsOrders (form : Form) (s : Scenario) (from to : ℕ) (text : List ℕ) : Type 0 where
  pub before : Version
  pub after : Version
  pub of_from : version_in s from ≡ Some before
  pub of_to : version_in s to ≡ Some after
  pub rollout : Rollout
  pub replaced : IsRollout (rule_of s) before after rollout
  pub is : IsOrdersText form rollout text

-- the same of the scenario that a text means
pub record IsOrderPlan (form : Form) (scenario : List ℕ) (from to : ℕ) (text : List ℕ) : Type 0 where
  pub meant : Scenario
  pub means : Means NotAtAll scenario meant
  pub shows : ShowsOrders form meant from to text
