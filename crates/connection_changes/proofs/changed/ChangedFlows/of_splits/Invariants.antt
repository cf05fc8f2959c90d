use Rattle.std.proofs.Common.{[], take}
use Rattle.connection_changes.specs.Changes.{changed_with}
use Rattle.connection_changes.specs.Books.{AreChanged}
use Rattle.connection_changes.proofs.changed.ChangedFlows.of_splits.Given as goal

abbrev pub invariant-loop-split : goal.invariant-loop-split
invariant-loop-split l = AreChanged (changed_with (take l.split-index l.splits) []) l.changed
