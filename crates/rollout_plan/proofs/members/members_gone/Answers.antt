use Rattle.std.proofs.Common.{◌≡◌, ◌∙◌, ap, sym, arith, List}
use Rattle.std.specs.List.{list_any}
use Rattle.pool_versions.specs.declared.backend.Backend.{Backend}
use Rattle.selection.specs.Readied.{same_backend}
use Rattle.rollout_plan.specs.Text.{has_member}
use Rattle.rollout_plan.proofs.ByName.{any_flip, gone_kept, gone_more}
use Rattle.rollout_plan.proofs.members.members_gone.Goals as goal
use Rattle.rollout_plan.proofs.members.members_gone.Goals.{then-not-is_among+in_ok-push, else-not-is_among}

pub loop-member-preserved : goal.loop-member-preserved
loop-member-preserved c =
    let is : c.is_among.result ≡ has_member c.args.after.now c.member-item.result.backend =
    c.is_among.ensures ∙ any_flip c.member-item.result.backend _ ∙ ap (λ (bs : List Backend). list_any (λ up. same_backend up c.member-item.result.backend) bs) c.as_slice.ensures.value ∙ c.in_ok-others.ensures.same c.member-item.result.backend in
    elim c.if-not-is_among.branch [
      | then-not-is_among+in_ok-push w ↦ ap (λ v. v.items) w.gone-is ∙ w.in_ok-push.ensures.items ∙ gone_more c.args.before.now c.args.after.now c.loop-member.member-index c.member-item.result c.loop-member.gone.items (omega arith) c.member-item.is (sym is ∙ w.if-not-is_among.true) c.loop-member.invariant
      | else-not-is_among w ↦ ap (λ v. v.items) w.gone-is ∙ gone_kept c.args.before.now c.args.after.now c.loop-member.member-index c.member-item.result c.loop-member.gone.items (omega arith) c.member-item.is (sym is ∙ w.if-not-is_among.false) c.loop-member.invariant
    ]
