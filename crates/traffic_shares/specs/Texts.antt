-- The lines of the shares.
use Rattle.std.specs.Prelude.{ℕ, List, ◌++◌, codes}
use Rattle.std.specs.List.{flat_map}
use Rattle.std.specs.Fmt.{decimal}
use Rattle.cluster_node.specs.declared.events.LogEntry.{LogEntry}
use Rattle.maglev_texts.specs.Printing.{backend_text}
use Rattle.traffic_shares.specs.declared.holders.Holder.{Holder}
use Rattle.traffic_shares.specs.declared.holders.Holder.TheVariants.{Backend, Node}
use Rattle.traffic_shares.specs.declared.holders.ShareKind.{ShareKind}
use Rattle.traffic_shares.specs.declared.shares.ShareRow.{ShareRow}
use Rattle.traffic_shares.specs.Shares.{rows_of}

-- `backend NAME@ADDRESS` or `node NODE`
abbrev pub holder_text : Holder → List ℕ
holder_text (Backend b) = codes "backend " ++ backend_text b
holder_text (Node n) = codes "node " ++ decimal n

-- `packets PACKETS bytes BYTES flows FLOWS`
abbrev pub taken_text : ShareRow → List ℕ
taken_text r = codes "packets " ++ (decimal r.packets ++ (codes " bytes " ++ (decimal r.bytes ++ (codes " flows " ++ decimal r.flows))))

abbrev pub row_line : ShareRow → List ℕ
row_line r = holder_text r.holder ++ (codes " version " ++ (decimal r.version ++ (codes " " ++ (taken_text r ++ codes "\n"))))

-- a line for each backend, or each node, under each version that has a share
unfoldable pub shares_text : ShareKind → List LogEntry → List ℕ
shares_text kind past = flat_map row_line (rows_of kind past)
