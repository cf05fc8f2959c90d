use Rattle.std.proofs.Common.{◌≡◌, map, take}
use Rattle.table_entrants.proofs.turns.weights_of.Given as goal

abbrev pub invariant-loop-entrant : goal.invariant-loop-entrant
invariant-loop-entrant l = l.weights.items ≡ map (λ e. e.weight) (take l.entrant-index l.entrants)
