use Rattle.std.proofs.Common.{◌≡◌, ◌≤◌, ◌-◌, ◌++◌, drop, take, map}
use Rattle.maglev_texts.specs.Parsing.{pieces, pieces_after}
use Rattle.maglev_texts.proofs.parsing.pieces.Given as goal

abbrev pub invariant-loop-i : goal.invariant-loop-i
invariant-loop-i l = record {
  order : l.start ≤ l.i;
  rest : map (λ w. w.now) l.found.items ++ pieces_after l.byte (take (l.i - l.start) (drop l.start l.text)) (drop l.i l.text) ≡ pieces l.byte l.text;
}
