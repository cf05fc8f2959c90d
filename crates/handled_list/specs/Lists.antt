-- What a contract sees of a list of what a worker handled.
use Rattle.std.specs.Prelude.{Bool, List}
use Rattle.handled_list.specs.declared.handled.Handled.{Handled}

-- what was handled, the first in front, and whether there is room for one more
pub record HandledItems : Type 0 where
  pub items : List Handled
  pub ready : Bool
