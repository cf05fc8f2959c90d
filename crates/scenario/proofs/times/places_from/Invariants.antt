use Rattle.std.proofs.Common.{◌≡◌, ◌≤◌, ◌+◌, ◌*◌, drop, option_map}
use Rattle.scenario.specs.Times.{places_from}
use Rattle.scenario.proofs.times.places_from.Given as goal

abbrev pub invariant-loop-digit : goal.invariant-loop-digit
invariant-loop-digit l = record {
  small : l.micros + 10 * l.unit ≤ 1000000;
  rest : option_map (λ rest. l.micros + rest) (places_from l.unit (drop l.digit-index l.digits)) ≡ places_from 100000 l.digits;
}
