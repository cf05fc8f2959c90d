use Rattle.std.proofs.Common.{◌≡◌, ◌++◌, drop}
use Rattle.version_drafts.proofs.changes.add_all.Given as goal

abbrev pub invariant-loop-change : goal.invariant-loop-change
invariant-loop-change l = l.found.items ++ drop l.change-index l.more ≡ l.fn.found.items ++ l.more
