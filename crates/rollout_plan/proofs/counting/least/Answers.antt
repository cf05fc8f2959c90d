use Rattle.std.proofs.Common.{rules, ◌≡◌, ℕ, ◌+◌, ◌<◌, ◌^◌, List, length, get_or, arith, ap, subst, ◌∙◌, Some}
use Rattle.std.proofs.lemmas.List.Sums.{sum_by_more}
use Rattle.pool_versions.specs.declared.backend.Backend.{Backend}
use Rattle.rollout_plan.specs.Counts.{slots_lost}
use Rattle.rollout_plan.proofs.counting.least.Goals as goal

pub overflow_add-lost : goal.overflow_add-lost
overflow_add-lost c =
    let n : c.from-lost.result ≡ c.slots_lost.result = c.from-lost.ensures in
    let many = ap length c.ups-backend-items.ensures.ups in
    let fits : c.loop-backend.lost + c.from-lost.result < 2 ^ 64 = omega (arith, n, many, c.loop-backend.invariant.few, c.slots_lost.ensures.few, c.ups-backend-items.ensures.few, c.loop-backend-test.true) in
    search rules

pub loop-backend-preserved : goal.loop-backend-preserved
loop-backend-preserved c =
    let f : Backend → ℕ = λ b. slots_lost c.args.before.now c.args.after.now (Some b) in
    let n : c.from-lost.result ≡ c.slots_lost.result = c.from-lost.ensures in
    let low : c.loop-backend.backend-index < length c.args.before.now.ups = omega (arith, ap length c.ups-backend-items.ensures.ups, c.loop-backend-test.true) in
    let read = subst (λ (xs : List Backend). c.backend-item.result ≡ get_or xs c.loop-backend.backend-index c.backend-item.result) c.ups-backend-items.ensures.ups c.backend-item.is in
    let more = sum_by_more f c.args.before.now.ups c.loop-backend.backend-index c.backend-item.result low in
    let here : c.slots_lost.result ≡ f (get_or c.args.before.now.ups c.loop-backend.backend-index c.backend-item.result) = c.slots_lost.ensures.lost ∙ ap f read in
    record {
      lost = omega (arith, n, more, here, c.loop-backend.invariant.lost);
      few = omega (arith, n, c.loop-backend.invariant.few, c.slots_lost.ensures.few);
    }

pub overflow_add-result : goal.overflow_add-result
overflow_add-result c =
    let n : c.from.result ≡ c.slots_lost_by_nobody.result = c.from.ensures in
    let many = ap length c.ups-backend-items.ensures.ups in
    let fits : c.loop-backend.lost + c.from.result < 2 ^ 64 = omega (arith, n, many, c.loop-backend.invariant.few, c.slots_lost_by_nobody.ensures.few, c.ups-backend-items.ensures.few, c.loop-backend-test.false, c.loop-backend.auto.backend-index-end) in
    search rules
