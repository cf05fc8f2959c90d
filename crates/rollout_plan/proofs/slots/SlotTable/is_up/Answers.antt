use Rattle.std.proofs.Common.{◌∙◌, ap, List}
use Rattle.std.specs.List.{list_any}
use Rattle.pool_versions.specs.declared.backend.Backend.{Backend}
use Rattle.selection.specs.Readied.{same_backend}
use Rattle.selection.specs.Picks.{NamedTable}
use Rattle.rollout_plan.proofs.ByName.{any_flip}
use Rattle.rollout_plan.proofs.slots.SlotTable.is_up.Goals as goal

pub returns : goal.returns
returns c = c.is_among.ensures ∙ any_flip c.args.backend.now _ ∙ ap (λ (bs : List Backend). list_any (λ up. same_backend up c.args.backend.now) bs) (c.as_slice.ensures.value ∙ ap (λ (t : NamedTable). t.ups) c.self.view_is)
