use Rattle.std.proofs.Common.{◌≡◌, ◌<◌, ◌^◌, ℕ, arith, ap, sym, subst}
use Rattle.version_board.specs.Numbers.{newest}
use Rattle.version_board.proofs.Steps.{publishes}
use Rattle.version_board.proofs.word.steps.WordBoardVersionBoard.publish.Goals as goal

pub store-requires : goal.store-requires
store-requires c =
    let p = c.args.seat.now in
    let board = c.args.self.now in
    let words = board.two in
    let n : c.from.result ≡ c.args.number = c.from.ensures in
    let above : newest p.seat.me.0.numbers < c.from.result = omega (arith, sym p.newest, n, c.if-number-seat.false) in
    let small : c.from.result < 2 ^ 32 = subst (λ (k : ℕ). k < 2 ^ 32) (sym n) c.ranges.number.fits in
    (c.requires, omega arith, publishes board.table.shared.key board.table.shared.table_id.slots p.seat.id p.seat.me c.from.result (ap (λ m. m.0) p.publishes) above small)
