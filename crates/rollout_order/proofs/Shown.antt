-- A text of orders is there only where both versions are.
use Rattle.std.proofs.Common.{◌≡◌, ℕ, Bool, true, ◌&&◌, List, Some, is_some, ap, ◌∙◌}
use Rattle.scenario.specs.declared.plan.Scenario.{Scenario}
use Rattle.json_lines.specs.declared.forms.Form.{Form}
use Rattle.rollout_plan.specs.Plans.{version_in, has_versions}
use Rattle.rollout_order.specs.OrderPlans.{ShowsOrders}

pub has_both : (form : Form) (s : Scenario) (from to : ℕ) (text : List ℕ) → ShowsOrders form s from to text → has_versions s from (Some to) ≡ true
has_both form s from to text shows = ap (λ (b : Bool). b && is_some (version_in s to)) (ap is_some shows.of_from) ∙ ap is_some shows.of_to
