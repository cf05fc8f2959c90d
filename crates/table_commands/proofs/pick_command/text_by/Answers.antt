use Rattle.std.proofs.Common.{ℕ, sym, subst, map, string_bytes}
use Rattle.hash_laws.specs.Any.{plain_of}
use Rattle.table_commands.specs.Pick.{IsPickTextAs}
use Rattle.table_commands.proofs.pick_command.text_by.Goals as goal

pub returns-in-Ok-clause-text : goal.returns-in-Ok-clause-text
returns-in-Ok-clause-text g c =
    let text = subst (λ (n : ℕ). IsPickTextAs c.args.options.form (plain_of c.in-Some-of_word.hash) n (map (λ w. w.now) c.args.words.now) c.args.check (g.R.Source.tape c.args.input.now).bytes (string_bytes c.in-Ok.text)) c.in-Some.ensures.0 c.in-Ok.ensures.text in
    (c.in-Some-of_word.hash, sym c.in-Some-of_word.ensures, text)
