-- The lines of the rows are those of a record.
use Rattle.std.proofs.Common.{◌≡◌, List, ap}
use Rattle.std.specs.List.{flat_map}
use Rattle.cluster_node.specs.declared.events.LogEntry.{LogEntry}
use Rattle.traffic_shares.specs.declared.holders.ShareKind.{ShareKind}
use Rattle.traffic_shares.specs.declared.shares.ShareRow.{ShareRow}
use Rattle.traffic_shares.specs.Shares.{rows_of}
use Rattle.json_lines.specs.Shares.{row_json, shares_json}

pub rows_told : (kind : ShareKind) (past : List LogEntry) (rows : List ShareRow) → rows ≡ rows_of kind past → flat_map row_json rows ≡ shares_json kind past
unfolding shares_json
rows_told kind past rows is = ap (λ (l : List ShareRow). flat_map row_json l) is
