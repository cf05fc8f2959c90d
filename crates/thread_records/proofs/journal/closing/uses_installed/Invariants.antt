use Rattle.std.proofs.Common.{◌≡◌, true, take}
use Rattle.thread_records.specs.Ends.{uses_installed}
use Rattle.thread_records.proofs.journal.closing.uses_installed.Given as goal

abbrev pub invariant-loop-at : goal.invariant-loop-at
invariant-loop-at l = uses_installed l.installed (take l.at l.handled.items) ≡ true
