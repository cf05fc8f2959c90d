use Rattle.std.proofs.Common.{ℕ, sym, subst, string_bytes}
use Rattle.hash_laws.specs.Any.{plain_of}
use Rattle.table_commands.specs.Compare.{IsCompareTextAs}
use Rattle.table_commands.proofs.compare_command.text_of.Goals as goal

pub returns-in-Ok-clause-text : goal.returns-in-Ok-clause-text
returns-in-Ok-clause-text c =
    let text = subst (λ (n : ℕ). IsCompareTextAs c.args.form (plain_of c.in-Some-of_word.hash) n c.args.old.now c.args.new.now (string_bytes c.in-Ok.text)) c.in-Some.ensures.0 c.in-Ok.ensures.text in
    (c.in-Some-of_word.hash, sym c.in-Some-of_word.ensures, c.in-Some.ensures.1, text)
