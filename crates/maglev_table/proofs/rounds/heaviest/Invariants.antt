use Rattle.std.proofs.Common.{◌<◌, ◌≤◌, ℕ, get_or}
use Rattle.maglev_table.proofs.rounds.heaviest.Given as goal

abbrev pub invariant-loop-weight : goal.invariant-loop-weight
invariant-loop-weight l = record {
  all : (k : ℕ) (d : ℕ) → k < l.weight-index → (1 ≤ get_or l.weights k d) × (get_or l.weights k d ≤ l.most);
  limit : l.most ≤ 16;
}
