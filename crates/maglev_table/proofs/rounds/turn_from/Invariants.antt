use Rattle.std.proofs.Common.{◌≡◌, ◌≤◌, ◌-◌, length}
use Rattle.maglev_table.specs.Weights.{turns_from}
use Rattle.maglev_table.proofs.rounds.turn_from.Given as goal

abbrev pub invariant-loop-here : goal.invariant-loop-here
invariant-loop-here l = record {
  first : 1 ≤ l.here.pass;
  last : l.here.pass ≤ 17;
  named : l.here.who ≤ length l.weights;
  same : turns_from (length l.weights) l.weights l.here.pass l.here.who ≡ turns_from (length l.weights) l.weights l.fn.place.pass l.fn.place.who;
}

abbrev pub decreases-loop-here : goal.decreases-loop-here
decreases-loop-here l = 17 - l.here.pass
