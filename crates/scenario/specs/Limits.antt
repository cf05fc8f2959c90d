-- How large a scenario may be.
use Rattle.std.specs.Prelude.{ℕ, ◌≤◌}

-- the limits of a scenario's numbers and lists
pub record AreLimits (workers capacity ring nodes steps : ℕ) : Type 0 where
  pub least_workers : 1 ≤ workers
  pub most_workers : workers ≤ 16
  pub least_capacity : 1 ≤ capacity
  pub most_capacity : capacity ≤ 1000000
  pub least_ring : 1 ≤ ring
  pub most_ring : ring ≤ 65536
  pub least_nodes : 1 ≤ nodes
  pub most_nodes : nodes ≤ 64
  pub most_steps : steps ≤ 100000
