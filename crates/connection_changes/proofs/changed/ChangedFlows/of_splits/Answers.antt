use Rattle.std.proofs.Common.{[], List, subst, arith, take}
use Rattle.std.proofs.lemmas.List.{take_all}
use Rattle.run_report.specs.declared.sending.Split.{Split}
use Rattle.connection_changes.specs.Changes.{changed_with}
use Rattle.connection_changes.specs.Books.{AreChanged}
use Rattle.connection_changes.proofs.Kept.{changed_more}
use Rattle.connection_changes.proofs.changed.ChangedFlows.of_splits.Goals as goal

pub loop-split-preserved : goal.loop-split-preserved
loop-split-preserved c =
    changed_more c.args.splits.now c.loop-split.split-index c.split-item.result [] _ c.loop-split-test.true c.split-item.is (c.in_ok-put.ensures (changed_with (take c.loop-split.split-index c.args.splits.now) []) c.loop-split.invariant)

pub returns : goal.returns
returns c = subst (λ (ps : List Split). AreChanged (changed_with ps []) c.loop-split.changed) (take_all c.loop-split.split-index c.args.splits.now (omega arith)) c.loop-split.invariant
