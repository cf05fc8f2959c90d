use Rattle.std.proofs.Common.{◌≡◌, ◌≤◌, drop}
use Rattle.maglev_texts.specs.Parsing.{digits_after}
use Rattle.maglev_texts.proofs.parsing.digits.Given as goal

abbrev pub invariant-loop-byte : goal.invariant-loop-byte
invariant-loop-byte l = record {
  small : l.number ≤ l.limit;
  rest : digits_after l.limit l.number (drop l.byte-index l.text) ≡ digits_after l.limit 0 l.text;
}
