use Rattle.std.proofs.Common.{◌≡◌, List, drop}
use Rattle.scenario_places.specs.PoolPlaces.{first_double, double_from}
use Rattle.scenario_places.proofs.PoolLaws.{HasThose}
use Rattle.std.specs.BTreeSet.{contains}
use Rattle.scenario_places.proofs.doubles.first_double.Given as goal

-- the set has the keys that came before, and the first double is the first behind them
abbrev pub invariant-loop-n : goal.invariant-loop-n
invariant-loop-n g l = (earlier : List g.row.K.Denot) × HasThose g.K.PartialEq.eq (contains g.K.Ord.cmp l.seen) earlier × (double_from g.K.PartialEq.eq earlier l.n (drop l.n l.keys) ≡ first_double g.K.PartialEq.eq l.keys)
