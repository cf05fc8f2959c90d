-- Which seats are a board's, and what they published and saw.
use Rattle.std.specs.Prelude.{◌≡◌, ℕ, List}
use Rattle.version_board.specs.declared.word.WordBoard.{WordBoard}
use Rattle.version_board.specs.declared.word.Publisher.{Publisher}
use Rattle.version_board.specs.declared.word.Watcher.{Watcher}

abbrev pub IsPublisherOf : WordBoard → Publisher → Type 0
IsPublisherOf board p = p.seat.table_id ≡ board.table.shared.table_id

abbrev pub IsWatcherOf : WordBoard → Watcher → Type 0
IsWatcherOf board w = w.seat.table_id ≡ board.table.shared.table_id

-- the board's first number and then those published
abbrev pub published_by : Publisher → List ℕ
published_by p = p.seat.me.0.numbers

-- the board's first number and then those that a worker saw
abbrev pub seen_by : Watcher → List ℕ
seen_by w = w.seat.me.0.numbers
