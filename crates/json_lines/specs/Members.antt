-- Members that several objects have.
use Rattle.std.specs.Prelude.{ℕ, Bool, true, false, List, ◌++◌, codes}
use Rattle.pool_versions.specs.declared.backend.Backend.{Backend}
use Rattle.maglev_texts.specs.Printing.{address_text}

abbrev pub bool_json : Bool → List ℕ
bool_json true = codes "true"
bool_json false = codes "false"

-- `"backend":"NAME","address":"ADDRESS"`
abbrev pub backend_members : Backend → List ℕ
backend_members b = codes "\"backend\":\"" ++ (b.name ++ (codes "\",\"address\":\"" ++ (address_text b.addr ++ codes "\"")))
