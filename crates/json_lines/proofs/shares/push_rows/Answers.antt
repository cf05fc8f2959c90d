use Rattle.std.proofs.Common.{string_bytes}
use Rattle.json_lines.specs.Shares.{row_json}
use Rattle.run_report.proofs.SplitWalks.{lines_more}
use Rattle.json_lines.proofs.shares.push_rows.Goals as goal

pub loop-row-preserved : goal.loop-row-preserved
loop-row-preserved c =
    lines_more row_json c.args.rows.now c.loop-row.row-index c.row-item.result (string_bytes c.loop-row.text) (string_bytes c.push_row.new.text) _ c.loop-row-test.true c.row-item.is c.in_ok-push_row.ensures c.loop-row.invariant
