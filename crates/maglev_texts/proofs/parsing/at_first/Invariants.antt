use Rattle.std.proofs.Common.{◌≡◌, ◌++◌, take, drop}
use Rattle.maglev_texts.specs.Parsing.{before_first, behind_first}
use Rattle.maglev_texts.proofs.parsing.at_first.Given as goal

abbrev pub invariant-loop-place : goal.invariant-loop-place
invariant-loop-place l = record {
  head : take l.place l.text ++ before_first l.byte (drop l.place l.text) ≡ before_first l.byte l.text;
  tail : behind_first l.byte (drop l.place l.text) ≡ behind_first l.byte l.text;
}
