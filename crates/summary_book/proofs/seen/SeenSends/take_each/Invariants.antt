use Rattle.std.proofs.Common.{List, ◌++◌, reverse, take}
use Rattle.summary_book.specs.declared.sent.Sent.{Sent}
use Rattle.summary_book.specs.Looks.{AreSeen}
use Rattle.summary_book.proofs.seen.SeenSends.take_each.Given as goal

abbrev pub invariant-loop-number : goal.invariant-loop-number
invariant-loop-number l = (done : List Sent) → AreSeen done l.initial.self → AreSeen (reverse (take l.number l.sends) ++ done) l.self
