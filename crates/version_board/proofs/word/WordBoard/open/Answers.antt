use Rattle.std.proofs.Common.{◌∷◌, [], ap}
use Rattle.version_board.proofs.Steps.{begins}
use Rattle.version_board.proofs.word.WordBoard.open.Goals as goal

pub of_words-requires : goal.of_words-requires
of_words-requires c = begins c.args.first (c.from.result ∷ 0 ∷ []) (ap (λ n. n ∷ 0 ∷ []) c.from.ensures) c.ranges.first.fits
