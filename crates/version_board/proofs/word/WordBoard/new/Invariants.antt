use Rattle.std.proofs.Common.{◌≡◌, ◌∷◌, [], vec_len}
use Rattle.std.specs.Prelude.{All}
use Rattle.version_board.specs.Seats.{IsPublisherOf, IsWatcherOf, published_by, seen_by}
use Rattle.version_board.proofs.word.WordBoard.new.Given as goal

abbrev pub invariant-loop : goal.invariant-loop
invariant-loop l =
    (IsPublisherOf l.board l.publisher × (published_by l.publisher ≡ l.first ∷ []))
    × (vec_len l.watchers ≡ l.counter)
    × All (λ w. IsWatcherOf l.board w × (seen_by w ≡ l.first ∷ [])) l.watchers.items
