use Rattle.std.proofs.Common.{arith, ap}
use Rattle.version_board.proofs.Steps.{looks}
use Rattle.version_board.proofs.word.steps.WordBoardVersionBoard.look.Goals as goal

pub load-requires : goal.load-requires
load-requires c =
    let p = c.args.seat.now in
    let board = c.args.self.now in
    let words = board.two in
    (c.requires, omega arith, looks board.table.shared.key board.table.shared.table_id.slots p.seat.id p.seat.me (ap (λ m. m.0) p.watches))
