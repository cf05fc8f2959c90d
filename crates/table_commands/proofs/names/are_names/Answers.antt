use Rattle.std.proofs.Common.{◌∙◌, sym}
use Rattle.std.proofs.lemmas.List.Folds.{list_all-map}
use Rattle.table_commands.specs.Refusals.{is_word}
use Rattle.table_commands.proofs.names.are_names.Goals as goal

pub returns : goal.returns
returns c = c.are_name_words.ensures ∙ sym (list_all-map is_word (λ w. w.now) c.args.words.now)
