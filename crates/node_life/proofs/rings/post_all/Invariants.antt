use Rattle.std.proofs.Common.{◌≡◌, ◌+◌, length}
use Rattle.std.specs.Prelude.{All}
use Rattle.version_board.specs.Seats.{IsWatcherOf}
use Rattle.node_life.proofs.rings.post_all.Given as goal

abbrev pub invariant-loop-seat : goal.invariant-loop-seat
invariant-loop-seat g l = record {
  seats : All (λ w. IsWatcherOf l.board w) l.seat-iterator.rest.items;
  count : length l.posts.items + length l.seat-iterator.rest.items ≡ length l.fn.seats.items;
}
