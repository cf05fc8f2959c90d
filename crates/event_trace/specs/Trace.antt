-- A scenario's run as a reader follows it: what was said so far, and what its steps fixed.
use Rattle.std.specs.Prelude.{ℕ, Bool, List}
use Rattle.cluster_node.specs.declared.events.LogEntry.{LogEntry}

pub record Trace : Type 0 where
  -- the events, newest first, with the outcome of each
  pub past : List LogEntry
  -- how many records were read
  pub read : ℕ
  -- the live nodes
  pub live : List ℕ
  -- by node, the workers that refuse
  pub marks : List (List Bool)
  -- the nodes held, by node
  pub held : List Bool
  -- how many packets were handed to the spreader, and how many of them found no live node
  pub nth : ℕ
  pub unrouted : ℕ
  -- how many records were lost, and how many repeats skipped
  pub lost : ℕ
  pub skipped : ℕ

-- a run that goes on: its trace so far, and the spreader that it asks
pub record Playing (P : Type 0) : Type 0 where
  pub trace : Trace
  pub spread : P
