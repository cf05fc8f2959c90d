-- The report: the counts of a run.
use Rattle.std.specs.Prelude.{ℕ, ◌==◌, Bool, if◌then◌else◌, List, ◌++◌, codes}
use Rattle.std.specs.List.{flat_map}
use Rattle.std.specs.Fmt.{decimal}
use Rattle.cluster_node.specs.declared.outcomes.Cause.{Cause}
use Rattle.cluster_core.specs.OutcomeCounts.{number}
use Rattle.cluster_core.specs.declared.counts.Totals.{Totals}
use Rattle.event_trace.specs.declared.play.Tally.{Tally}
use Rattle.run_report.specs.Names.{cause_name}
use Rattle.run_report.specs.Report.{causes, count_of}
use Rattle.json_lines.specs.Members.{bool_json}

-- `"CAUSE":COUNT`, after a comma where the cause isn't the first one
abbrev pub drop_member : Cause → ℕ → List ℕ
drop_member cause count = (if number cause == 1 then codes "" else codes ",") ++ (codes "\"" ++ (cause_name cause ++ (codes "\":" ++ decimal count)))

-- all causes with their counts, in the order of their numbers
unfoldable pub drop_members : List ℕ → List ℕ
drop_members dropped = flat_map (λ cause. drop_member cause (count_of dropped cause)) causes

-- what became of the capture's records
abbrev pub record_members : Tally → Bool → List ℕ
record_members tally is_cut =
    codes "\"packets\":" ++ (decimal tally.packets ++ (codes ",\"lost\":" ++ (decimal tally.lost ++ (codes ",\"unrouted\":" ++ (decimal tally.unrouted
    ++ (codes ",\"skipped\":" ++ (decimal tally.skipped ++ (codes ",\"left\":" ++ (decimal tally.left ++ (codes ",\"cut\":" ++ bool_json is_cut))))))))))

-- how many packets arrived at a node, and how many of them were sent
unfoldable pub came_members : ℕ → ℕ → List ℕ
came_members received forwarded = codes "\"received\":" ++ (decimal received ++ (codes ",\"forwarded\":" ++ decimal forwarded))

-- `,"dropped":{..},`
unfoldable pub dropped_member : List ℕ → List ℕ
dropped_member dropped = codes ",\"dropped\":{" ++ (drop_members dropped ++ codes "},")

-- how many packets wait, and how many events were refused
unfoldable pub rest_members : ℕ → ℕ → List ℕ
rest_members waiting refused = codes "\"waiting\":" ++ (decimal waiting ++ (codes ",\"refused\":" ++ decimal refused))

-- what became of the packets that arrived at a node
abbrev pub total_members : Totals → List ℕ
total_members totals = came_members totals.received totals.forwarded ++ (dropped_member totals.dropped ++ rest_members totals.waiting totals.refused)

-- `{"type":"report",RECORDS,TOTALS}`
abbrev pub report_json : Tally → Totals → Bool → List ℕ
report_json tally totals is_cut = codes "{\"type\":\"report\"," ++ (record_members tally is_cut ++ (codes "," ++ (total_members totals ++ codes "}\n")))
