-- A text of what was asked is there only where the versions are.
use Rattle.std.proofs.Common.{◌≡◌, ℕ, Bool, true, ◌&&◌, List, Option, Some, None, is_some, ap, ◌∙◌}
use Rattle.scenario.specs.declared.plan.Scenario.{Scenario}
use Rattle.json_lines.specs.declared.forms.Form.{Form}
use Rattle.rollout_plan.specs.Plans.{version_in, ShowsAs, has_versions}

pub has_what_it_shows : (form : Form) (s : Scenario) (from : ℕ) (to : Option ℕ) (text : List ℕ) → ShowsAs form s from to text → has_versions s from to ≡ true
has_what_it_shows form s from None text shows = ap is_some shows.of_number
has_what_it_shows form s from (Some to) text shows = ap (λ (b : Bool). b && is_some (version_in s to)) (ap is_some shows.of_from) ∙ ap is_some shows.of_to
