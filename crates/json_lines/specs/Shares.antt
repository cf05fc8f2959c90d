-- The lines of the shares of backends or nodes.
use Rattle.std.specs.Prelude.{ℕ, List, ◌++◌, codes}
use Rattle.std.specs.List.{flat_map}
use Rattle.std.specs.Fmt.{decimal}
use Rattle.cluster_node.specs.declared.events.LogEntry.{LogEntry}
use Rattle.traffic_shares.specs.declared.holders.Holder.{Holder}
use Rattle.traffic_shares.specs.declared.holders.Holder.TheVariants.{Backend, Node}
use Rattle.traffic_shares.specs.declared.holders.ShareKind.{ShareKind}
use Rattle.traffic_shares.specs.declared.shares.ShareRow.{ShareRow}
use Rattle.traffic_shares.specs.Shares.{rows_of}
use Rattle.json_lines.specs.Members.{backend_members}

abbrev pub holder_word : Holder → List ℕ
holder_word (Backend b) = codes "backend"
holder_word (Node n) = codes "node"

-- `"backend":"NAME","address":"ADDRESS"` or `"node":NODE`
abbrev pub holder_members : Holder → List ℕ
holder_members (Backend b) = backend_members b
holder_members (Node n) = codes "\"node\":" ++ decimal n

-- `"packets":PACKETS,"bytes":BYTES,"flows":FLOWS`
abbrev pub taken_members : ShareRow → List ℕ
taken_members r = codes "\"packets\":" ++ (decimal r.packets ++ (codes ",\"bytes\":" ++ (decimal r.bytes ++ (codes ",\"flows\":" ++ decimal r.flows))))

-- `{"type":"backend","version":VERSION,HOLDER,TAKEN}`
abbrev pub row_json : ShareRow → List ℕ
row_json r =
    codes "{\"type\":\"" ++ (holder_word r.holder ++ (codes "\",\"version\":" ++ (decimal r.version
    ++ (codes "," ++ (holder_members r.holder ++ (codes "," ++ (taken_members r ++ codes "}\n")))))))

-- a line for each backend, or each node, under each version that has a share
unfoldable pub shares_json : ShareKind → List LogEntry → List ℕ
shares_json kind past = flat_map row_json (rows_of kind past)
