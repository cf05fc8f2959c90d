use Rattle.std.proofs.Common.{rules}
use Rattle.std.proofs.lemmas.List.Elements.{All-rest}
use Rattle.version_board.specs.Seats.{IsWatcherOf}
use Rattle.node_life.proofs.rings.post_all.Goals as goal

pub loop-seat-preserved : goal.loop-seat-preserved
loop-seat-preserved g c = record {
  seats = All-rest (λ w. IsWatcherOf c.args.board.now w) c.in-Some.seat c.next.new.self.rest.items c.loop-seat.seat-iterator.rest.items (search rules) c.loop-seat.invariant.seats;
  count = search rules;
}
