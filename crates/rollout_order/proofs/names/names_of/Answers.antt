use Rattle.std.proofs.Common.{◌≡◌, ◌∙◌, ap, sym, List, ℕ, nat_eq}
use Rattle.std.specs.Cmp.Lexicographic.{pointwise}
use Rattle.std.specs.List.{list_any}
use Rattle.rollout_order.proofs.Lists.{names_more, name_new, name_there}
use Rattle.rollout_order.proofs.names.names_of.Goals.{then-not-contains+in_ok-push, else-not-contains}
use Rattle.rollout_order.proofs.names.names_of.Goals as goal

pub loop-backend-preserved : goal.loop-backend-preserved
loop-backend-preserved c =
    let is : c.contains.result ≡ list_any (λ n. pointwise nat_eq n c.backend-item.result.name) c.loop-backend.names.items =
    c.contains.ensures.value ∙ ap (λ (ns : List (List ℕ)). list_any (λ n. pointwise nat_eq n c.backend-item.result.name) ns) c.as_slice.ensures.value in
    elim c.if-not-contains.branch [
      | then-not-contains+in_ok-push w ↦ names_more c.args.backends.now c.loop-backend.backend-index c.backend-item.result c.loop-backend.names.items c.if-not-contains.names.items c.loop-backend-test.true c.backend-item.is c.loop-backend.invariant
          (ap (λ v. v.items) w.names-is ∙ w.in_ok-push.ensures.items ∙ name_new c.loop-backend.names.items c.backend-item.result.name (sym is ∙ w.if-not-contains.true))
      | else-not-contains w ↦ names_more c.args.backends.now c.loop-backend.backend-index c.backend-item.result c.loop-backend.names.items c.if-not-contains.names.items c.loop-backend-test.true c.backend-item.is c.loop-backend.invariant
          (ap (λ v. v.items) w.names-is ∙ name_there c.loop-backend.names.items c.backend-item.result.name (sym is ∙ w.if-not-contains.false))
    ]
