use Rattle.std.proofs.lemmas.Slice.Zip.{either_empty_from_Zip}
use Rattle.run_report.proofs.Walks.{drop_more, drops_end}
use Rattle.run_report.proofs.reports.push_drops.Goals as goal

pub loop-cause-preserved : goal.loop-cause-preserved
loop-cause-preserved c =
    drop_more _ _ _ _ _ _ _ _ _ c.in-Some.ensures.steps.0 c.in-Some.ensures.steps.1 c.in_ok-push_drop.ensures c.loop-cause.invariant

pub returns : goal.returns
returns c =
    drops_end _ _ _ _ (either_empty_from_Zip c.loop-cause.cause-iterator c.next.new.self c.next.result c.in-None.is c.next.ensures.steps) c.loop-cause.invariant
