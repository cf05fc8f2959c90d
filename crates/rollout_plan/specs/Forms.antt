-- The text of the command `plan`, as a list of bytes, in each form.
use Rattle.std.specs.Prelude.{ℕ, List, [], ◌++◌, codes}
use Rattle.std.specs.List.{flat_map}
use Rattle.pool_versions.specs.declared.backend.Backend.{Backend}
use Rattle.pool_versions.specs.declared.backend.Member.{Member}
use Rattle.pool_versions.specs.declared.key.ServiceKey.{ServiceKey}
use Rattle.pool_versions.specs.declared.service.Service.{Service}
use Rattle.pool_versions.specs.declared.service.Version.{Version}
use Rattle.pool_versions.specs.Pool.{key_of, draining_backends}
use Rattle.selection.specs.Picks.{NamedTable}
use Rattle.json_lines.specs.declared.forms.Form.{Form}
use Rattle.json_lines.specs.declared.forms.Form.TheVariants.{Plain, Json}
use Rattle.json_lines.specs.Forms.{head_as}
use Rattle.rollout_plan.specs.declared.slots.TableRule.{TableRule}
use Rattle.rollout_plan.specs.Tables.{table_by}
use Rattle.rollout_plan.specs.Text.{service_line, counts_line, change_line, slots_line, backend_line, members_of_both, members_under, in_order, services_gone}
use Rattle.rollout_plan.specs.Objects.{change_json, change_member_json, service_json, member_json}

-- a service and what changes between its tables, where some drain after
abbrev pub counts_as : Form → ServiceKey → NamedTable → NamedTable → List Backend → List ℕ
counts_as Plain key before after draining = service_line key ++ counts_line before after draining
counts_as Json key before after draining = change_json key before after draining

-- a member between two tables
abbrev pub change_line_as : Form → ServiceKey → NamedTable → NamedTable → List Backend → Member → List ℕ
change_line_as Plain key before after draining m = change_line before after draining m
change_line_as Json key before after draining m = change_member_json key before after draining m

-- what changes for a service, between the members before and after
unfoldable pub change_text_as : Form → TableRule → ServiceKey → List Member → List Member → List ℕ
change_text_as form rule key before after =
    counts_as form key (table_by rule before) (table_by rule after) (draining_backends after) ++
    flat_map (change_line_as form key (table_by rule before) (table_by rule after) (draining_backends after)) (members_of_both before after)

-- of a service of the later version
abbrev pub kept_text_as : Form → TableRule → Version → Service → List ℕ
kept_text_as form rule before s = change_text_as form rule (key_of s) (members_under (key_of s) before) s.members.items

-- of a service that the later version lacks
abbrev pub gone_text_as : Form → TableRule → Service → List ℕ
gone_text_as form rule s = change_text_as form rule (key_of s) s.members.items []

-- what changes from one version to another: the later one's services, and then those that it lacks
abbrev pub plan_text_as : Form → TableRule → Version → Version → List ℕ
plan_text_as form rule before after =
    head_as form (codes "plan") ++
    (flat_map (kept_text_as form rule before) after.services.items ++ flat_map (gone_text_as form rule) (services_gone before.services.items after))

-- a service and the size of its table
abbrev pub size_as : Form → ServiceKey → ℕ → List ℕ
size_as Plain key size = service_line key ++ slots_line size
size_as Json key size = service_json key size

-- a member in one table, where some drain
abbrev pub backend_line_as : Form → ServiceKey → NamedTable → List Backend → Member → List ℕ
backend_line_as Plain key t draining m = backend_line t draining m
backend_line_as Json key t draining m = member_json key t draining m

-- what a service has, of some members
unfoldable pub block_text_as : Form → TableRule → ServiceKey → List Member → List ℕ
block_text_as form rule key ms =
    size_as form key rule.size ++ flat_map (backend_line_as form key (table_by rule ms) (draining_backends ms)) (in_order ms)

-- of a service of a version
abbrev pub service_text_as : Form → TableRule → Service → List ℕ
service_text_as form rule s = block_text_as form rule (key_of s) s.members.items

-- what one version has
abbrev pub version_text_as : Form → TableRule → Version → List ℕ
version_text_as form rule v = head_as form (codes "plan") ++ flat_map (service_text_as form rule) v.services.items
