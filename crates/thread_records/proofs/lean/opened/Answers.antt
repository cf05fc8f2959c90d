use Rattle.std.proofs.Common.{ℕ, List, map, ap, ◌∙◌}
use Rattle.std.specs.Global.{Vec}
use Rattle.cluster_node.specs.declared.outcomes.Outcome.{Outcome}
use Rattle.thread_records.specs.Lean.{send_of}
use Rattle.thread_records.proofs.Leans.{told_step}
use Rattle.thread_records.proofs.lean.opened.Goals as goal

pub loop-life-preserved : goal.loop-life-preserved
loop-life-preserved c =
    ap (λ (ws : List (Vec Outcome)). map (λ v. v.items) ws) c.in_ok-push.ensures.items
    ∙ told_step (λ (v : Vec ℕ). map (λ n. send_of c.args.outcomes.now.items n) v.items) (λ (v : Vec Outcome). v.items) c.loop-life.lists.items c.in_ok-opened_life.field-0 c.args.sent.now c.loop-life.life-index c.life-item.result c.loop-life-test.true c.life-item.is
    (c.in_ok-opened_life.ensures ∙ ap (λ (l : List ℕ). map (λ n. send_of c.args.outcomes.now.items n) l) c.as_slice.ensures.value) c.loop-life.invariant
