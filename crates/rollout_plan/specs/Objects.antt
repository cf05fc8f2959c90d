-- What `plan` prints as JSON Lines: an object a line.
use Rattle.std.specs.Prelude.{ℕ, Bool, true, false, List, ◌++◌, codes, Some}
use Rattle.std.specs.Fmt.{decimal}
use Rattle.pool_versions.specs.declared.backend.Backend.{Backend}
use Rattle.pool_versions.specs.declared.backend.Member.{Member}
use Rattle.pool_versions.specs.declared.key.ServiceKey.{ServiceKey}
use Rattle.selection.specs.Picks.{NamedTable}
use Rattle.json_lines.specs.Members.{backend_members}
use Rattle.rollout_plan.specs.Text.{service_word}
use Rattle.rollout_plan.specs.Counts.{slots_naming, is_up, drains, changed, down, moved, drained, least}

-- whether a backend is up, and if it isn't, whether it drains
abbrev pub state_json : Bool → Bool → List ℕ
state_json true drains = codes "up"
state_json false true = codes "drain"
state_json false false = codes "down"

-- `"type":"service","service":"SERVICE","slots":M`
unfoldable pub service_members : ServiceKey → ℕ → List ℕ
service_members key size = codes "\"type\":\"service\",\"service\":\"" ++ (service_word key ++ (codes "\",\"slots\":" ++ decimal size))

-- `,"changed":C,"down":D,"moved":V,"drained":N,"least":L}`
abbrev pub causes_end : ℕ → ℕ → ℕ → ℕ → ℕ → List ℕ
causes_end changed down moved drained least =
    codes ",\"changed\":" ++ (decimal changed ++ (codes ",\"down\":" ++ (decimal down ++ (codes ",\"moved\":" ++ (decimal moved
    ++ (codes ",\"drained\":" ++ (decimal drained ++ (codes ",\"least\":" ++ (decimal least ++ codes "}\n")))))))))

-- the same of two tables, where some drain after
unfoldable pub counts_end : NamedTable → NamedTable → List Backend → List ℕ
counts_end before after draining =
    causes_end (changed before after) (down before after draining) (moved before after) (drained before after draining) (least before after)

-- a service between two tables
abbrev pub change_json : ServiceKey → NamedTable → NamedTable → List Backend → List ℕ
change_json key before after draining = codes "{" ++ (service_members key before.size ++ counts_end before after draining)

-- a service under one version
abbrev pub service_json : ServiceKey → ℕ → List ℕ
service_json key size = codes "{" ++ (service_members key size ++ codes "}\n")

-- `"type":"member","service":"SERVICE",BACKEND,"weight":W`
unfoldable pub member_members : ServiceKey → Member → List ℕ
member_members key m =
    codes "\"type\":\"member\",\"service\":\"" ++ (service_word key
    ++ (codes "\"," ++ (backend_members m.backend ++ (codes ",\"weight\":" ++ decimal m.weight))))

-- `{MEMBER,"before":B,"after":A,"state":"STATE"}`: a member between two tables
unfoldable pub change_member_json : ServiceKey → NamedTable → NamedTable → List Backend → Member → List ℕ
change_member_json key before after draining m =
    codes "{" ++ (member_members key m ++ (codes ",\"before\":" ++ (decimal (slots_naming (Some m.backend) before) ++ (
    codes ",\"after\":" ++ (decimal (slots_naming (Some m.backend) after) ++ (
    codes ",\"state\":\"" ++ (state_json (is_up after m.backend) (drains draining m.backend) ++ codes "\"}\n")))))))

-- `{MEMBER,"slots":N,"state":"STATE"}`: a member in one table
unfoldable pub member_json : ServiceKey → NamedTable → List Backend → Member → List ℕ
member_json key t draining m =
    codes "{" ++ (member_members key m ++ (codes ",\"slots\":" ++ (decimal (slots_naming (Some m.backend) t) ++ (
    codes ",\"state\":\"" ++ (state_json (is_up t m.backend) (drains draining m.backend) ++ codes "\"}\n")))))
