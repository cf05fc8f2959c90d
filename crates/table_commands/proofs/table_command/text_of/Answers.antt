use Rattle.std.proofs.Common.{ℕ, sym, subst, map, string_bytes}
use Rattle.hash_laws.specs.Any.{plain_of}
use Rattle.table_commands.specs.Text.{IsTableTextAs}
use Rattle.table_commands.proofs.table_command.text_of.Goals as goal

pub returns-in-Ok-clause-text : goal.returns-in-Ok-clause-text
returns-in-Ok-clause-text c =
    let text = subst (λ (n : ℕ). IsTableTextAs c.args.form (plain_of c.in-Some-of_word.hash) n (map (λ w. w.now) c.args.words.now) (string_bytes c.in-Ok.text)) c.in-Some.ensures.0 c.in-Ok.ensures.text in
    (c.in-Some-of_word.hash, sym c.in-Some-of_word.ensures, text)
