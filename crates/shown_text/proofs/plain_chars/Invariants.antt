use Rattle.std.proofs.Common.{◌≡◌, ◌++◌, drop}
use Rattle.shown_text.specs.Lines.{plain_chars}
use Rattle.shown_text.proofs.plain_chars.Given as goal

abbrev pub invariant-loop-c : goal.invariant-loop-c
invariant-loop-c l = l.line.items ++ plain_chars (drop l.c-index l.text) ≡ plain_chars l.text
