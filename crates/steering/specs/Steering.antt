-- Where a packet goes among the workers of a node.
use Rattle.std.specs.Prelude.{ℕ, ◌+◌, ◌<◌, ◌%◌, ◌==◌, ◌&&◌, not, Bool, false, List, [], ◌∷◌, if◌then◌else◌, get_or, zero, suc}
use Rattle.five_tuple.specs.declared.Flow.{Flow}
use Rattle.five_tuple.specs.Flow.{flow_bytes}
use Rattle.steering.specs.declared.Placed.{Placed}
use Rattle.steering.specs.declared.Placed.TheVariants.{Worker, RingsFull}

-- a steerer as contracts see it
pub record Steering : Type 0 where
  pub workers : ℕ
  -- how many earlier packets had a home that refused, modulo the workers
  pub cursor : ℕ
  -- the home was named for the packet at hand, and did not refuse yet
  pub at_home : Bool
  -- the workers that the packet at hand has still to try
  pub left : List ℕ

-- the worker at which a flow is at home: the hash with the tag 'w', modulo the workers
unfoldable pub home_of : (List ℕ → ℕ) → ℕ → Flow → ℕ
home_of plain workers x = plain (119 ∷ flow_bytes x) % workers

-- so many workers one after another, from a number on, modulo the workers
abbrev pub ring_from : ℕ → ℕ → ℕ → List ℕ
ring_from workers c zero = []
ring_from workers c (suc k) = c % workers ∷ ring_from workers (c + 1) k

-- the list with the home left out
abbrev pub but : ℕ → List ℕ → List ℕ
but home [] = []
but home (w ∷ ws) = if w == home then but home ws else w ∷ but home ws

-- the workers that are tried after the home, in this order
abbrev pub others : ℕ → ℕ → ℕ → List ℕ
others workers home c = but home (ring_from workers c workers)

-- whether a worker refuses, by the marks
abbrev pub refuses : List Bool → ℕ → Bool
refuses marks w = get_or marks w false

-- the first of these workers that doesn't refuse
abbrev pub first_taker : List Bool → List ℕ → Placed
first_taker marks [] = RingsFull
first_taker marks (w ∷ ws) = if refuses marks w then first_taker marks ws else Worker w

-- a packet tries its home, and then the others from the cursor on
unfoldable pub place_for : List Bool → ℕ → ℕ → ℕ → Placed
place_for marks workers home c = first_taker marks (home ∷ others workers home c)

-- a packet whose home refused moves the cursor on, wherever it goes
abbrev pub cursor_after : Bool → ℕ → ℕ → ℕ
cursor_after turned workers c = if turned then (c + 1) % workers else c

-- the next of these workers
abbrev pub next_of : List ℕ → Placed
next_of [] = RingsFull
next_of (w ∷ ws) = Worker w

abbrev pub rest_of : List ℕ → List ℕ
rest_of [] = []
rest_of (w ∷ ws) = ws

-- a place is one of so many workers
abbrev pub IsBelow : ℕ → Placed → Type 0
IsBelow workers (Worker w) = w < workers
IsBelow workers RingsFull = Unit {0}

-- a worker other than the home that doesn't refuse
abbrev pub is_free : List Bool → ℕ → ℕ → Bool
is_free marks home w = not (w == home) && not (refuses marks w)
