-- What the commands print as JSON Lines: an object a line.
use Rattle.std.specs.Prelude.{ℕ, List, ◌++◌, codes, Option, Some, None}
use Rattle.std.specs.Fmt.{decimal}
use Rattle.five_tuple.specs.declared.Flow.{Flow}
use Rattle.pool_versions.specs.declared.backend.Backend.{Backend}
use Rattle.maglev_texts.specs.Printing.{flow_text}
use Rattle.json_lines.specs.Members.{backend_members}

-- a name, or nobody
abbrev pub name_json : Option (List ℕ) → List ℕ
name_json None = codes "null"
name_json (Some name) = codes "\"" ++ (name ++ codes "\"")

-- a backend, or nobody
abbrev pub backend_json : Option Backend → List ℕ
backend_json None = codes "null"
backend_json (Some b) = codes "{" ++ (backend_members b ++ codes "}")

-- `{"type":"table","size":M,"backends":N}`
abbrev pub table_json : ℕ → ℕ → List ℕ
table_json size backends = codes "{\"type\":\"table\",\"size\":" ++ (decimal size ++ (codes ",\"backends\":" ++ (decimal backends ++ codes "}\n")))

-- `{"type":"slot","slot":I,"backend":"NAME"}`
abbrev pub slot_json : ℕ → Option (List ℕ) → List ℕ
slot_json slot name = codes "{\"type\":\"slot\",\"slot\":" ++ (decimal slot ++ (codes ",\"backend\":" ++ (name_json name ++ codes "}\n")))

-- `{"type":"count","backend":"NAME","slots":C}`
abbrev pub count_json : List ℕ → ℕ → List ℕ
count_json name count = codes "{\"type\":\"count\",\"backend\":\"" ++ (name ++ (codes "\",\"slots\":" ++ (decimal count ++ codes "}\n")))

-- `{"type":"pick","flow":"FLOW","slot":I,"backend":"NAME"}`
abbrev pub flow_json : Flow → ℕ → List ℕ → List ℕ
flow_json x slot name =
    codes "{\"type\":\"pick\",\"flow\":\"" ++ (flow_text x ++ (codes "\",\"slot\":" ++ (decimal slot ++ (codes ",\"backend\":\"" ++ (name ++ codes "\"}\n")))))

-- `{"type":"drop","cause":"CAUSE"}`
abbrev pub drop_json : List ℕ → List ℕ
drop_json cause = codes "{\"type\":\"drop\",\"cause\":\"" ++ (cause ++ codes "\"}\n")

-- `{"type":"compare","size":M,"old":N1,"new":N2,"differ":D}`
abbrev pub compare_json : ℕ → ℕ → ℕ → ℕ → List ℕ
compare_json size before after moved =
    codes "{\"type\":\"compare\",\"size\":" ++ (decimal size ++ (codes ",\"old\":" ++ (decimal before ++ (codes ",\"new\":" ++ (decimal after
    ++ (codes ",\"differ\":" ++ (decimal moved ++ codes "}\n")))))))

-- `{"type":"slot","slot":I,"old":{"backend":"NAME","address":"ADDRESS"},"new":null}`
abbrev pub moved_json : ℕ → Option Backend → Option Backend → List ℕ
moved_json slot before after =
    codes "{\"type\":\"slot\",\"slot\":" ++ (decimal slot
    ++ (codes ",\"old\":" ++ (backend_json before ++ (codes ",\"new\":" ++ (backend_json after ++ codes "}\n")))))
