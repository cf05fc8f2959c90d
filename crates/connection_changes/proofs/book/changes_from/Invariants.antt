use Rattle.std.proofs.Common.{◌≡◌, ◌++◌}
use Rattle.std.specs.Iterator.Adapters.{zip_first, zip_second}
use Rattle.std.specs.Slice.Iter.{iter_rest}
use Rattle.connection_changes.specs.Books.{placed_changes}
use Rattle.connection_changes.proofs.book.changes_from.Given as goal

abbrev pub invariant-loop-split : goal.invariant-loop-split
invariant-loop-split l = l.changes.items ++ placed_changes (iter_rest (zip_first l.split-iterator)) (iter_rest (zip_second l.split-iterator)) ≡ placed_changes l.splits l.sites
