-- Which node a packet goes to.
use Rattle.std.specs.Prelude.{◌≡◌, ℕ, ◌%◌, List, [], ◌∷◌, length, Option, Some, None, slice_get, Contains, is_some, true}
use Rattle.five_tuple.specs.declared.Flow.{Flow}
use Rattle.five_tuple.specs.Flow.{flow_bytes}

-- the node at a number, counted round the live nodes; none where none is live
abbrev pub node_at : List ℕ → ℕ → Option ℕ
node_at live number = slice_get live (number % length live)

-- the node whose turn it is, after so many packets
abbrev pub node_by_turn : List ℕ → Option Flow → ℕ → Option ℕ
node_by_turn live flow nth = node_at live nth

-- the node at the flow's hash with the tag 'e'; a packet without a flow goes by turn
abbrev pub node_by_hash : (List ℕ → ℕ) → List ℕ → Option Flow → ℕ → Option ℕ
node_by_hash plain live None nth = node_at live nth
node_by_hash plain live (Some x) nth = node_at live (plain (101 ∷ flow_bytes x))

-- what a spreader chooses from live nodes, for a packet with or without a flow, after so many packets
abbrev pub Choice : Type 0
Choice = List ℕ → Option Flow → ℕ → Option ℕ

-- an answer is a live node
abbrev pub ChoosesLive : Choice → Type 0
ChoosesLive choice = (live : List ℕ) (flow : Option Flow) (nth node : ℕ) → choice live flow nth ≡ Some node → Contains live node

-- there is an answer where a node is live, and none where none is
abbrev pub ChoosesWhereLive : Choice → Type 0
ChoosesWhereLive choice = (node : ℕ) (live : List ℕ) (flow : Option Flow) (nth : ℕ) → is_some (choice (node ∷ live) flow nth) ≡ true

abbrev pub ChoosesNoneOfNone : Choice → Type 0
ChoosesNoneOfNone choice = (flow : Option Flow) (nth : ℕ) → choice [] flow nth ≡ None

-- a spreader by hash as contracts see it
pub record HashSpreading (H : Type 0) : Type 0 where
  pub hash : H
  pub live : List ℕ
