use Rattle.std.proofs.Common.{◌≡◌, ◌++◌, List, reverse, length}
use Rattle.handled_list.specs.declared.handled.Handled.{Handled}
use Rattle.thread_records.specs.Ends.{with_serves}
use Rattle.thread_records.proofs.journal.Journal.write_serves.Given as goal

abbrev pub invariant-loop-one : goal.invariant-loop-one
invariant-loop-one l = (done : List Handled) × (l.fn.handled.items ≡ done ++ reverse l.rest.items) × (l.self ≡ with_serves l.worker done l.fn.self)

abbrev pub decreases-loop-one : goal.decreases-loop-one
decreases-loop-one l = length l.rest.items
