use Rattle.std.proofs.Common.{rules, ◌≡◌, ℕ, List, sym, subst, map, string_bytes}
use Rattle.table_commands.specs.Text.{IsTableTextAsOf}
use Rattle.table_commands.proofs.table_command.table_as.Goals as goal

pub returns-in-Ok-put_text-clause-written : goal.returns-in-Ok-put_text-clause-written
returns-in-Ok-put_text-clause-written g c =
    let value : c.as_str.result.now ≡ string_bytes c.in-Ok.text = search rules in
    (c.as_str.result.now, subst (λ (t : List ℕ). IsTableTextAsOf c.args.options.form c.args.options.hash.now c.args.options.size (map (λ w. w.now) c.args.words.now) t) (sym value) c.in-Ok.ensures.text, c.in-Ok-put_text.ensures.written.0, c.in-Ok-put_text.ensures.written.1)

pub returns-clause-broken : goal.returns-clause-broken
returns-clause-broken g c = λ write.
    let value : c.as_str.result.now ≡ string_bytes c.in-Ok.text = search rules in
    (c.as_str.result.now, subst (λ (t : List ℕ). IsTableTextAsOf c.args.options.form c.args.options.hash.now c.args.options.size (map (λ w. w.now) c.args.words.now) t) (sym value) c.in-Ok.ensures.text, c.in-Err-put_text.ensures.refused.1)
