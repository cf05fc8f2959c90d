use Rattle.std.proofs.Common.{rules, string_bytes}
use Rattle.json_lines.proofs.Told.{drop_more}
use Rattle.json_lines.proofs.reports.push_drops.Goals as goal

pub loop-cause-preserved : goal.loop-cause-preserved
loop-cause-preserved c =
    drop_more c.args.counts.now c.loop-cause.cause-index _ c.count_of.result (string_bytes c.loop-cause.text) (string_bytes c.push_drop.new.text) _ c.loop-cause-test.true (search rules)
    c.count_of.ensures c.in_ok-push_drop.ensures c.loop-cause.invariant
