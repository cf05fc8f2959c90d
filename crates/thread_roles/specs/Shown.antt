-- The version that is shown to a node's workers, and its number on their board.
use Rattle.std.specs.Prelude.{ℕ, Option, Some, None}
use Rattle.selection.specs.Readied.{Readied}
use Rattle.version_board.specs.Numbers.{newest}
use Rattle.version_board.specs.Seats.{published_by}
use Rattle.version_board.specs.declared.word.Publisher.{Publisher}

-- the number of what is shown, 0 where that is nothing
abbrev pub number_of : {S A : Type 0} → (A → Readied S) → Option A → ℕ
number_of value None = 0
number_of value (Some p) = (value p).number

-- the number that a publisher's seat published last, and before that the board's first
abbrev pub last_published : Publisher → ℕ
last_published seat = newest (published_by seat)
