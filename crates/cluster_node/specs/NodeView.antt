-- A node as contracts see it.
use Rattle.std.specs.Prelude.{ℕ, List}
use Rattle.cluster_node.specs.WorkerView.{WorkerView}

pub record NodeView : Type 0 where
  pub newest : ℕ
  -- the versions installed, the newest in front
  pub installed : List ℕ
  -- how many packets of this life had a home that refused, modulo the workers
  pub cursor : ℕ
  pub workers : List WorkerView
