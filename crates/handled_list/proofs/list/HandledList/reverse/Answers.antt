use Rattle.std.proofs.Common.{List, reverse, ap, ◌∙◌}
use Rattle.handled_list.specs.declared.kept.Kept.{Kept}
use Rattle.handled_list.specs.Lists.{HandledItems}
use Rattle.handled_list.specs.Meant.{opened, meant}
use Rattle.handled_list.proofs.Lists.{map_reverse}
use Rattle.handled_list.proofs.list.HandledList.reverse.Goals as goal

pub returns : goal.returns
returns c =
    let was = c.self.inside in
    ap (λ (ks : List Kept). meant was.known was.strangers.items ks) c.reverse.ensures.items
    ∙ map_reverse (λ k. opened was.known was.strangers.items k) was.kept.items
    ∙ ap (λ (v : HandledItems). reverse v.items) c.self.view_is
