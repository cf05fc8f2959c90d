use Rattle.std.proofs.Common.{take}
use Rattle.std.specs.Prelude.{All}
use Rattle.thread_records.specs.Sources.{IsFrom}
use Rattle.thread_records.proofs.work.WorkerRecord.uses_own.Given as goal

abbrev pub invariant-loop-at : goal.invariant-loop-at
invariant-loop-at g l = All (IsFrom (λ a b. g.S.PartialEq.eq a b) l.setup l.catalogue) (take l.at l.self.made)
