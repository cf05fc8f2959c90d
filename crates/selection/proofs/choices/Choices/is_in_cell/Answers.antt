use Rattle.std.proofs.Common.{Contains, List, subst}
use Rattle.pool_versions.specs.declared.backend.Backend.{Backend}
use Rattle.selection.specs.Shared.{Chosen}
use Rattle.selection.proofs.Among.{is_item}
use Rattle.selection.proofs.choices.Choices.is_in_cell.Goals as goal

pub returns-in-Some-get : goal.returns-in-Some-get
returns-in-Some-get g c is =
    subst (λ (k : Chosen g.row.S.Denot). Contains k.ups.backends c.args.backend.now) c.self.view_is
    (subst (λ (bs : List Backend). Contains bs c.args.backend.now) c.backends.ensures.backends
    (is_item c.backends.result.now _ c.in-Some-get.other c.args.backend.now c.in-Some-get.ensures.lookup (c.is_same.ensures.0 is)))
