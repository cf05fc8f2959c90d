use Rattle.std.proofs.Common.{string_bytes}
use Rattle.traffic_shares.specs.Texts.{row_line}
use Rattle.traffic_shares.proofs.Walks.{line_more}
use Rattle.traffic_shares.proofs.lines.push_rows.Goals as goal

pub loop-row-preserved : goal.loop-row-preserved
loop-row-preserved c =
    line_more row_line c.args.rows.now c.loop-row.row-index c.row-item.result (string_bytes c.loop-row.text) (string_bytes c.push_row.new.text) _ c.loop-row-test.true c.row-item.is c.in_ok-push_row.ensures c.loop-row.invariant
