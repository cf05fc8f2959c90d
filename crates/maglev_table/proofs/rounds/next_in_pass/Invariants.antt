use Rattle.std.proofs.Common.{◌≡◌, ◌<◌, ◌≤◌, ℕ, false}
use Rattle.maglev_table.specs.Weights.{has_turn}
use Rattle.maglev_table.proofs.rounds.next_in_pass.Given as goal

abbrev pub invariant-loop-who : goal.invariant-loop-who
invariant-loop-who l = (k : ℕ) → l.place.who ≤ k → k < l.who → has_turn l.weights l.place.pass k ≡ false
