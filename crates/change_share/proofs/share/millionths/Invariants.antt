use Rattle.std.proofs.Common.{◌≡◌, ◌≤◌, ◌+◌, ◌*◌, drop, option_map}
use Rattle.change_share.specs.Shares.{millionths}
use Rattle.change_share.proofs.share.millionths.Given as goal

abbrev pub invariant-loop-digit : goal.invariant-loop-digit
invariant-loop-digit l = record {
  small : l.parts + 10 * l.unit ≤ 1000000;
  rest : option_map (λ rest. l.parts + rest) (millionths l.unit (drop l.digit-index l.digits)) ≡ millionths 100000 l.digits;
}
