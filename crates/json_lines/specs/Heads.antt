-- The first line of each command's output, and the line of an audit.
use Rattle.std.specs.Prelude.{ℕ, Bool, List, ◌++◌, codes}
use Rattle.json_lines.specs.Members.{bool_json}

-- `{"type":"maglev","version":1,"command":"NAME"}`
abbrev pub head_json : List ℕ → List ℕ
head_json command = codes "{\"type\":\"maglev\",\"version\":1,\"command\":\"" ++ (command ++ codes "\"}\n")

-- `{"type":"audit","agrees":true}`
abbrev pub audit_json : Bool → List ℕ
audit_json agrees = codes "{\"type\":\"audit\",\"agrees\":" ++ (bool_json agrees ++ codes "}\n")
