-- Where a setup has no fault, it is within the limits.
use Rattle.std.proofs.Common.{◌≡◌, ℕ, ◌<◌, ◌≤◌, None, arith}
use Rattle.std.proofs.lemmas.Bool.Decides.{nat_tests}
use Rattle.cluster_core.specs.Setups.{setup_fault}

pub record Within (nodes workers capacity : ℕ) : Type 0 where
  pub some_nodes : 0 < nodes
  pub few_nodes : nodes ≤ 64
  pub some_workers : 0 < workers
  pub few_workers : workers ≤ 16
  pub some_entries : 0 < capacity
  pub few_entries : capacity ≤ 1000000

pub no_fault : (nodes workers capacity : ℕ) → setup_fault nodes workers capacity ≡ None → Within nodes workers capacity
no_fault nodes workers capacity h = record {
  some_nodes = grind (arith, nat_tests);
  few_nodes = grind (arith, nat_tests);
  some_workers = grind (arith, nat_tests);
  few_workers = grind (arith, nat_tests);
  some_entries = grind (arith, nat_tests);
  few_entries = grind (arith, nat_tests);
}
