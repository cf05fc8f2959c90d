use Rattle.std.proofs.Common.{◌≡◌, ℕ, ◌+◌, length, refl, sym, ◌∙◌, ap, arith}
use Rattle.std.proofs.lemmas.List.{with_items_is}
use Rattle.recent_order.proofs.Sides.{reads, add_leaves, extended_by, first_below}
use Rattle.recent_order.proofs.order.RecentOrder.add.Goals as goal

pub link_first-requires-clause-first : goal.link_first-requires-clause-first
link_first-requires-clause-first c =
    let len : length c.deref_mut.result.now ≡ c.in_ok-place.place + 1 = ap length c.deref_mut.ensures.value ∙ c.in_ok-place.ensures.len ∙ ap (λ (m : ℕ). m + 1) (sym c.in_ok-place.ensures.place) in
    first_below _ c.in_ok-place.place c.args.self.now (omega (arith, len))
    (extended_by _ c.deref_mut.result.now c.in_ok-place.place c.args.self.now c.self.invariant c.self.view_is c.in_ok-place.ensures.place len (reads _ _ _ _ c.deref_mut.ensures.value c.make_place.ensures.same refl))

pub invariant_of-self-2 : goal.invariant_of-self-2
invariant_of-self-2 c =
    let len : length c.deref_mut.result.now ≡ c.in_ok-place.place + 1 = ap length c.deref_mut.ensures.value ∙ c.in_ok-place.ensures.len ∙ ap (λ (m : ℕ). m + 1) (sym c.in_ok-place.ensures.place) in
    (add_leaves _ _ _ _ c.in_ok-place.place c.args.self.now c.self.invariant c.self.view_is c.in_ok-place.ensures.place len (reads _ _ _ _ c.deref_mut.ensures.value c.make_place.ensures.same refl)
    c.link_first.ensures c.link_first.auto.links (with_items_is c.make_place.new.links c.link_first.new.links (c.link_first.auto.links ∙ c.deref_mut.ensures.len))).ring

pub returns-clause-after : goal.returns-clause-after
returns-clause-after c =
    let len : length c.deref_mut.result.now ≡ c.in_ok-place.place + 1 = ap length c.deref_mut.ensures.value ∙ c.in_ok-place.ensures.len ∙ ap (λ (m : ℕ). m + 1) (sym c.in_ok-place.ensures.place) in
    (add_leaves _ _ _ _ c.in_ok-place.place c.args.self.now c.self.invariant c.self.view_is c.in_ok-place.ensures.place len (reads _ _ _ _ c.deref_mut.ensures.value c.make_place.ensures.same refl)
    c.link_first.ensures c.link_first.auto.links (with_items_is c.make_place.new.links c.link_first.new.links (c.link_first.auto.links ∙ c.deref_mut.ensures.len))).view
