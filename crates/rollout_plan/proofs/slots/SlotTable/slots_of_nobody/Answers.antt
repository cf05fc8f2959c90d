use Rattle.std.proofs.Common.{◌≡◌, ◌<◌, length, arith, ap, sym, ◌∙◌, subst, eqb-true, vec_len}
use Rattle.selection.specs.Picks.{NamedTable}
use Rattle.rollout_plan.specs.Tables.{IsSlotTable}
use Rattle.rollout_plan.proofs.SlotCounts.{nobody_up, somebody_up, above_zero}
use Rattle.rollout_plan.proofs.slots.SlotTable.slots_of_nobody.Goals as goal

pub returns-then-is_empty-clause-slots : goal.returns-then-is_empty-clause-slots
returns-then-is_empty-clause-slots c =
    let ups : c.self.inside.ups.items ≡ c.args.self.now.ups = ap (λ (t : NamedTable). t.ups) c.self.view_is in
    let none : length c.args.self.now.ups ≡ 0 = sym (ap length ups) ∙ sym c.self.inside.ups.ok.0 ∙ eqb-true _ 0 (sym c.is_empty.ensures ∙ c.if-is_empty.true) in
    c.slots.ensures.value ∙ ap (λ (t : NamedTable). t.size) c.self.view_is ∙ nobody_up c.args.self.now.size c.args.self.now.ups c.args.self.now.owners none

pub returns-else-is_empty-clause-slots : goal.returns-else-is_empty-clause-slots
returns-else-is_empty-clause-slots c =
    let P : NamedTable → Type 0 = λ t. IsSlotTable t.size t.ups t.owners c.self.inside.counts.items in
    let whole : IsSlotTable c.args.self.now.size c.args.self.now.ups c.args.self.now.owners c.self.inside.counts.items = subst P c.self.view_is c.self.invariant.0 in
    let ups : c.self.inside.ups.items ≡ c.args.self.now.ups = ap (λ (t : NamedTable). t.ups) c.self.view_is in
    let above = above_zero (vec_len c.self.inside.ups) (sym c.is_empty.ensures ∙ c.if-is_empty.false) in
    let some : 0 < length c.args.self.now.ups = omega (arith, ap length ups, c.self.inside.ups.ok.0, above) in
    somebody_up c.args.self.now.size c.args.self.now.ups c.args.self.now.owners some whole.long whole.named
