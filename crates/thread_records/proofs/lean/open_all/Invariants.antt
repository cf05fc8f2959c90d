use Rattle.thread_records.specs.Lean.{AreSameLists}
use Rattle.thread_records.proofs.lean.open_all.Given as goal

abbrev pub invariant-loop-node : goal.invariant-loop-node
invariant-loop-node l = AreSameLists l.opened.items l.yielded
