use Rattle.std.proofs.Common.{◌∙◌, sym}
use Rattle.std.proofs.lemmas.List.Folds.{list_all-map}
use Rattle.backend_names.specs.NameText.{is_name}
use Rattle.maglev_ffi.proofs.entrants.are_names.Goals as goal

pub returns : goal.returns
returns c = c.are_named.ensures ∙ sym (list_all-map is_name (λ w. w.now) c.args.words.now)
