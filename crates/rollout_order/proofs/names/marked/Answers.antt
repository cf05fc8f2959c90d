use Rattle.std.proofs.Common.{◌∙◌, ap, sym, arith}
use Rattle.rollout_order.proofs.Lists.{marked_more, marked_kept}
use Rattle.rollout_order.proofs.names.marked.Goals.{then-is_marked+in_ok-push, else-is_marked}
use Rattle.rollout_order.proofs.names.marked.Goals as goal

pub loop-place-preserved : goal.loop-place-preserved
loop-place-preserved c = elim c.if-is_marked.branch [
  | then-is_marked+in_ok-push w ↦ ap (λ v. v.items) w.found-is ∙ w.in_ok-push.ensures.items ∙
      marked_more c.args.marks.now c.args.names.now c.loop-place.place w.index-names-place.result c.loop-place.found.items (omega arith) w.index-names-place.is (sym c.is_marked.ensures ∙ w.if-is_marked.true) c.loop-place.invariant
  | else-is_marked w ↦ ap (λ v. v.items) w.found-is ∙ marked_kept c.args.marks.now c.args.names.now c.loop-place.place c.loop-place.found.items (sym c.is_marked.ensures ∙ w.if-is_marked.false) c.loop-place.invariant
]
