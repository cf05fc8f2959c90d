use Rattle.std.proofs.Common.{arith, ap, ◌∙◌, take}
use Rattle.std.proofs.lemmas.List.{length-take, take_all}
use Rattle.std.proofs.lemmas.List.Elements.{All-take}
use Rattle.shown_text.specs.Lines.{plain_chars}
use Rattle.shown_text.proofs.Plain.{IsPlain, all_plain, same_plain}
use Rattle.shown_text.proofs.lines_are_plain.Goals as goal

pub returns-clause-plain : goal.returns-clause-plain
returns-clause-plain c text = All-take IsPlain 200 (plain_chars text) (all_plain text)

pub returns-clause-short : goal.returns-clause-short
returns-clause-short c text = omega (arith, length-take 200 (plain_chars text))

pub returns-clause-same : goal.returns-clause-same
returns-clause-same c text plain short = ap (λ l. take 200 l) (same_plain text plain) ∙ take_all 200 text short
