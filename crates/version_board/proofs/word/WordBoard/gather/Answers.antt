use Rattle.std.proofs.Common.{arith, ap, ◌∙◌, sym, subst, List, ℕ}
use Rattle.std.specs.Prelude.{All, Contains}
use Rattle.version_board.specs.Rule.{publisher}
use Rattle.version_board.proofs.Steps.{gives_back, compares}
use Rattle.version_board.proofs.word.WordBoard.gather.Goals as goal

pub join_seat-requires : goal.join_seat-requires
join_seat-requires c =
    let p = c.args.publisher.now.seat in
    let w = c.args.watcher in
    let board = c.args.self.now in
    let words = board.two in
    (c.requires.0, c.requires.1, ap (λ m. m.1) w.watches, omega arith, gives_back board.table.shared.key p.id w.seat.id p.me.0 w.seat.me.0 (ap (λ m. m.0) c.args.publisher.now.publishes) (ap (λ m. m.0) w.watches))

pub load-requires : goal.load-requires
load-requires c =
    let p = c.join_seat.new.seat in
    let board = c.args.self.now in
    let words = board.two in
    let me = c.join_seat.ensures.2 in
    (c.join_seat.ensures.0 ∙ c.requires.0, omega arith, compares board.table.shared.key board.table.shared.table_id.slots p.id p.me (ap (λ m. m.0) me ∙ sym (ap (λ m. publisher m.0.numbers m.0.given_back) me)))

pub returns-clause-among : goal.returns-clause-among
returns-clause-among c =
    let me = c.join_seat.ensures.2 in
    let told = c.load.ensures.2 in
    subst (λ (l : List ℕ). All (λ n. Contains l n) c.args.watcher.seat.me.0.numbers) (sym (ap (λ m. m.0.numbers) told.0))
    (subst (λ (l : List ℕ). All (λ n. Contains c.join_seat.new.seat.me.0.numbers n) l) (ap (λ m. m.0.given_back) me) told.1)
