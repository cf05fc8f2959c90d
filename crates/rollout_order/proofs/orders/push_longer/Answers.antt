use Rattle.std.proofs.Common.{◌≡◌, ◌∙◌, ap, sym, not, map, get_or, false, subst, Bool, All, List}
use Rattle.rollout_order.specs.Orders.{is_open, IsKnown, plain_order, with_step}
use Rattle.rollout_order.proofs.Lists.{kept_yes, kept_no}
use Rattle.rollout_order.proofs.orders.push_longer.Goals.{then-not-is_marked+in_ok-with_step+in_ok-push, else-not-is_marked}
use Rattle.rollout_order.proofs.orders.push_longer.Goals as goal

pub loop-place-preserved : goal.loop-place-preserved
loop-place-preserved c =
    let mark : c.is_marked.result ≡ get_or c.args.order.now.marks.items c.loop-place.place false = c.is_marked.ensures ∙ ap (λ (ms : List Bool). get_or ms c.loop-place.place false) c.as_slice.ensures.value in
    elim c.if-not-is_marked.branch [
      | then-not-is_marked+in_ok-with_step+in_ok-push w ↦ record {
        found = ap (λ v. map plain_order v.items) w.found-is ∙ ap (map plain_order) w.in_ok-push.ensures.items ∙
            kept_yes plain_order (with_step c.args.rollout.now (plain_order c.args.order.now)) (is_open c.args.order.now.marks.items) c.loop-place.place (map plain_order c.args.found.now.items) c.loop-place.found.items w.in_ok-with_step.field-0
            (ap not (sym mark ∙ w.if-not-is_marked.true)) w.in_ok-with_step.ensures.order c.loop-place.invariant.found;
        known = subst (λ v. All (IsKnown c.args.rollout.now) v.items) (sym w.known-is) w.with_step.ensures.known;
      }
      | else-not-is_marked w ↦ record {
        found = ap (λ v. map plain_order v.items) w.found-is ∙
            kept_no (with_step c.args.rollout.now (plain_order c.args.order.now)) (is_open c.args.order.now.marks.items) c.loop-place.place (map plain_order c.args.found.now.items) (map plain_order c.loop-place.found.items)
            (ap not (sym mark ∙ w.if-not-is_marked.false)) c.loop-place.invariant.found;
        known = subst (λ v. All (IsKnown c.args.rollout.now) v.items) (sym w.known-is) c.loop-place.invariant.known;
      }
    ]
