-- The lines of the splits, and their counts.
use Rattle.std.specs.Prelude.{ℕ, List, ◌++◌, length, codes}
use Rattle.std.specs.List.{flat_map}
use Rattle.std.specs.Fmt.{decimal}
use Rattle.cluster_node.specs.declared.events.LogEntry.{LogEntry}
use Rattle.maglev_texts.specs.Printing.{address_text, flow_text}
use Rattle.run_report.specs.declared.cause.SplitCause.{SplitCause}
use Rattle.run_report.specs.declared.sending.Sending.{Sending}
use Rattle.run_report.specs.declared.sending.Split.{Split}
use Rattle.run_report.specs.Causes.{Lookups, cause_of, down_count, moved_count, drained_count}
use Rattle.run_report.specs.Splits.{splits_of, flows_of}
use Rattle.run_report.specs.Texts.{cause_text}
use Rattle.json_lines.specs.Members.{backend_members}

-- `"event":EVENT,"version":VERSION,BACKEND`: the version is the one under which the backend was chosen
abbrev pub send_members : Sending → List ℕ
send_members s = codes "\"event\":" ++ (decimal s.number ++ (codes ",\"version\":" ++ (decimal s.origin ++ (codes "," ++ backend_members s.backend))))

-- what comes before the two sends of a split
abbrev pub split_members : Split → ℕ → SplitCause → List ℕ
split_members p slot cause =
    codes "\"type\":\"split\",\"flow\":\"" ++ (flow_text p.later.flow ++ (codes "\",\"client\":\"" ++ (address_text p.later.flow.src
    ++ (codes "\",\"slot\":" ++ (decimal slot ++ (codes ",\"cause\":\"" ++ (cause_text cause ++ codes "\"")))))))

-- `{"type":"split","flow":"FLOW","client":"ADDRESS","slot":SLOT,"cause":"CAUSE","first":{..},"later":{..}}`
abbrev pub split_line : Split → ℕ → SplitCause → List ℕ
split_line p slot cause =
    codes "{" ++ (split_members p slot cause ++ (codes ",\"first\":{" ++ (send_members p.first
    ++ (codes "},\"later\":{" ++ (send_members p.later ++ codes "}}\n")))))

abbrev pub split_json : Lookups → Split → List ℕ
split_json lookups p = split_line p (lookups.slot p.later.flow) (cause_of lookups p)

-- the number of flows, of splits, and of those with each cause
abbrev pub counts_line : ℕ → ℕ → ℕ → ℕ → ℕ → List ℕ
counts_line flows split down moved drained =
    codes "{\"type\":\"splits\",\"flows\":" ++ (decimal flows ++ (codes ",\"split\":" ++ (decimal split ++ (codes ",\"down\":" ++ (decimal down
    ++ (codes ",\"moved\":" ++ (decimal moved ++ (codes ",\"drained\":" ++ (decimal drained ++ codes "}\n")))))))))

abbrev pub counts_json : Lookups → ℕ → List Split → List ℕ
counts_json lookups flows ps = counts_line flows (length ps) (down_count lookups ps) (moved_count lookups ps) (drained_count lookups ps)

-- a line for each split, and after them the counts
unfoldable pub told_json : Lookups → ℕ → List Split → List ℕ
told_json lookups flows ps = flat_map (split_json lookups) ps ++ counts_json lookups flows ps

-- those of a record
abbrev pub splits_json : Lookups → List LogEntry → List ℕ
splits_json lookups past = told_json lookups (length (flows_of past)) (splits_of past)
