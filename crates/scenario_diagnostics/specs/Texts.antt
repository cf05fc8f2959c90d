-- Warnings as text.
use Rattle.std.specs.Prelude.{ℕ, List, ◌++◌, codes}
use Rattle.std.specs.Fmt.{decimal}
use Rattle.pool_versions.specs.declared.key.ServiceKey.{ServiceKey}
use Rattle.rollout_plan.specs.Text.{service_word}
use Rattle.scenario_diagnostics.specs.declared.warned.Warning.{Warning}
use Rattle.scenario_diagnostics.specs.declared.warned.Warning.TheVariants.{UnknownVersion, NoVersion, NoMembers}

abbrev pub unknown_text : ℕ → List ℕ
unknown_text v = codes "a step installs version " ++ (decimal v ++ codes ", which the catalogue lacks")

abbrev pub bare_text : ℕ → List ℕ
bare_text n = codes "node " ++ (decimal n ++ codes " is live when packets come, and never has a version")

abbrev pub empty_text : ℕ → ServiceKey → List ℕ
empty_text v k = codes "service " ++ (service_word k ++ (codes " of version " ++ (decimal v ++ codes " has no members")))

abbrev pub warning_text : Warning → List ℕ
warning_text (UnknownVersion v) = unknown_text v
warning_text (NoVersion n) = bare_text n
warning_text (NoMembers v k) = empty_text v k
