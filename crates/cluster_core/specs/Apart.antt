-- A worker's servings by its own packets and servings alone.
use Rattle.std.specs.Prelude.{◌≡◌, ℕ, Bool, List, [], ◌∷◌, length, max, Some, slice_get}
use Rattle.forwarder.specs.Serving.{Serving}
use Rattle.cluster_node.specs.declared.serving.Item.{Item}
use Rattle.cluster_node.specs.Rules.{Rules}
use Rattle.cluster_node.specs.Book.{Line, put, took, serving_under}

-- what a worker did: the packet that it popped, the version, and whether a new entry was refused
pub record Handling : Type 0 where
  pub item : Item
  pub version : ℕ
  pub refused : Bool

-- the packets that were popped are the first ones placed, in order. The newest in front
abbrev pub Popped : List Item → List Handling → Type 0
Popped items [] = Unit {0}
Popped items (s ∷ earlier) = (slice_get items (length earlier) ≡ Some s.item) × Popped items earlier

abbrev pub serving : Rules → Handling → Serving
serving rules s = serving_under (rules.ups s.version) s.version s.item s.refused

abbrev pub greatest : List Handling → ℕ
greatest [] = 0
greatest (s ∷ earlier) = max s.version (greatest earlier)

-- all packets of a life, the first in front, as lines
abbrev pub puts_on : List Line → List Item → List Line
puts_on ls [] = ls
puts_on ls (i ∷ is) = puts_on (put i ∷ ls) is

-- the worker's servings, as lines after these
abbrev pub tooks_on : List Line → List Handling → List Line
tooks_on ls [] = ls
tooks_on ls (s ∷ earlier) = took s.version s.refused ∷ tooks_on ls earlier

-- a worker's life, with all packets placed before all servings
abbrev pub settled : List Item → List Handling → List Line
settled items done = tooks_on (puts_on [] items) done
