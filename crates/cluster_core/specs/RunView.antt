-- A run as contracts see it.
use Rattle.std.specs.Prelude.{Bool, List}
use Rattle.selection.specs.Readied.{Readied}
use Rattle.cluster_node.specs.NodeView.{NodeView}

pub record RunView (S : Type 0) : Type 0 where
  -- memory was refused
  pub failed : Bool
  pub nodes : List NodeView
  -- the versions prepared so far
  pub versions : List (Readied S)
