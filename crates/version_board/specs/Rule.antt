-- The rule of a board. The publisher's numbers ascend, the word is the last of them, and what a worker's seat has seen is
-- among them.
use Rattle.std.specs.Prelude.{◌≡◌, ℕ, ◌<◌, ◌≤◌, ◌^◌, ◌++◌, true, false, List, [], ◌∷◌, All, Contains, length, slice_index, take}
use mathlib.Core.Option.{some}
use lib.ListN.{get_elem?}
use Rattle.atomic_table.specs.Table.{State, Step, Me}
use Rattle.version_board.specs.declared.rule.View.{View}
use Rattle.version_board.specs.Numbers.{newest, IsAscending}

-- the publisher, with its numbers and what the seat saw that was given back last
abbrev pub publisher : List ℕ → List ℕ → View
publisher numbers given = record { publishes = true; numbers = numbers; given_back = given }

abbrev pub watcher : List ℕ → View
watcher numbers = record { publishes = false; numbers = numbers; given_back = [] }

abbrev pub newcomer : View → View
newcomer v = watcher (take 1 v.numbers)

-- the one publisher knows all numbers, of which some were given back, and a worker some of them
abbrev pub Fits : ℕ → List ℕ → ℕ → View → Type 0
Fits seat numbers by v =
    (v.publishes ≡ true → (by ≡ seat) × (v.numbers ≡ numbers) × All (λ n. Contains numbers n) v.given_back)
    × (v.publishes ≡ false → All (λ n. Contains numbers n) v.numbers)

pub record IsBoard (first : ℕ) (words : List ℕ) (views : List View) : Type 0 where
  pub seat : ℕ
  pub later : List ℕ
  pub ascending : IsAscending (first ∷ later)
  pub two : length words ≡ 2
  pub word : slice_index words 0 ≡ newest (first ∷ later)
  pub small : slice_index words 0 < 2 ^ 32
  pub fits : (by : ℕ) (v : View) → get_elem? views by ≡ some v → Fits seat (first ∷ later) by v

abbrev pub HoldsBoard : ℕ → State Unit View → Type 0
HoldsBoard first s = IsBoard first s.words s.views

-- the number is after the publisher's
abbrev pub Published : Step Unit → Me Unit View → ℕ → Me Unit View → Type 0
Published s me stored after = after ≡ (publisher (me.0.numbers ++ stored ∷ []) me.0.given_back, me.1)

-- the number found is after what was seen, and no less
abbrev pub Looked : Step Unit → Me Unit View → ℕ → Me Unit View → Type 0
Looked s me found after = (after ≡ (watcher (me.0.numbers ++ found ∷ []), me.1)) × (found < 2 ^ 32) × All (λ n. n ≤ found) me.0.numbers

-- the view stays as it is
abbrev pub Unchanged : Step Unit → Me Unit View → ℕ → Me Unit View → Type 0
Unchanged s me found after = after ≡ me

-- what was given back is among the publisher's numbers
abbrev pub Compared : Step Unit → Me Unit View → ℕ → Me Unit View → Type 0
Compared s me found after = (after ≡ me) × All (λ n. Contains me.0.numbers n) me.0.given_back
