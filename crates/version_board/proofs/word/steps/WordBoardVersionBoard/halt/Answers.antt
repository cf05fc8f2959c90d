use Rattle.std.proofs.Common.{arith}
use Rattle.version_board.proofs.Steps.{keeps_view}
use Rattle.version_board.proofs.word.steps.WordBoardVersionBoard.halt.Goals as goal

pub store-requires : goal.store-requires
store-requires c =
    let p = c.args.seat.now in
    let board = c.args.self.now in
    let words = board.two in
    (c.requires, omega arith, keeps_view board.table.shared.key board.table.shared.table_id.slots p.seat.id p.seat.me (λ _. 1) (λ _. 1))
