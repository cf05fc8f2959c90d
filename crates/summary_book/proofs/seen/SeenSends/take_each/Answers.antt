use Rattle.std.proofs.Common.{List, ◌++◌, reverse, take, subst, arith}
use Rattle.std.proofs.lemmas.List.{take_all}
use Rattle.summary_book.specs.declared.sent.Sent.{Sent}
use Rattle.summary_book.specs.Looks.{AreSeen}
use Rattle.summary_book.proofs.Noted.{take_next}
use Rattle.summary_book.proofs.seen.SeenSends.take_each.Goals as goal

pub loop-number-init : goal.loop-number-init
loop-number-init c = λ done s. s

pub loop-number-preserved : goal.loop-number-preserved
loop-number-preserved c = λ done s.
    let xs = c.args.sends.now in
    let n = c.loop-number.number in
    subst (λ (ss : List Sent). AreSeen ss c.take.new.self) (take_next xs n c.index-sends-number.result done c.loop-number-test.true c.index-sends-number.is)
    (c.in_ok-take.ensures (reverse (take n xs) ++ done) (c.loop-number.invariant done s))

pub returns : goal.returns
returns c = λ done s. subst (λ (xs : List Sent). AreSeen (reverse xs ++ done) c.loop-number.self) (take_all c.loop-number.number c.args.sends.now (omega arith)) (c.loop-number.invariant done s)
