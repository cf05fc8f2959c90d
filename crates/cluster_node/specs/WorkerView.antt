-- A worker as contracts see it.
use Rattle.std.specs.Prelude.{ℕ, List}
use Rattle.cluster_node.specs.declared.serving.Item.{Item}
use Rattle.forwarder.specs.Forwarding.{Forwarding}

pub record WorkerView : Type 0 where
  -- the packets that wait, the first in front
  pub queue : List Item
  -- the greatest version used
  pub used : ℕ
  pub forwarding : Forwarding
