use Rattle.std.proofs.Common.{◌≡◌, ℕ, true, subst}
use Rattle.backend_names.specs.Sizes.{is_table_size}
use Rattle.backend_names.proofs.Primes.{size_is_prime}
use Rattle.backend_names.proofs.size.TableSize.slots.Goals as goal
use Rattle.std.proofs.Common.{arith}
use Rattle.std.proofs.lemmas.Grind.{common_steps}

pub returns-clause-prime : goal.returns-clause-prime
returns-clause-prime c = size_is_prime c.args.self (subst (λ (n : ℕ). is_table_size n ≡ true) c.self.view_is c.self.invariant)

pub returns-clause-value : goal.returns-clause-value
returns-clause-value c = grind (arith, common_steps)

pub returns-clause-listed : goal.returns-clause-listed
returns-clause-listed c = grind (arith, common_steps)

pub returns-clause-low : goal.returns-clause-low
returns-clause-low c = grind (arith, common_steps)

pub returns-clause-high : goal.returns-clause-high
returns-clause-high c = grind (arith, common_steps)
