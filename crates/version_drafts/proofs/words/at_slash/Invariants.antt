use Rattle.std.proofs.Common.{◌≡◌, ◌++◌, take, drop}
use Rattle.maglev_texts.specs.Parsing.{before_first, behind_first}
use Rattle.version_drafts.proofs.words.at_slash.Given as goal

abbrev pub invariant-loop-place : goal.invariant-loop-place
invariant-loop-place l = record {
  head : take l.place l.text ++ before_first 47 (drop l.place l.text) ≡ before_first 47 l.text;
  tail : behind_first 47 (drop l.place l.text) ≡ behind_first 47 l.text;
}
