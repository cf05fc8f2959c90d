use Rattle.std.proofs.Common.{◌<◌, length, sym, ◌∙◌, arith}
use Rattle.std.proofs.lemmas.Bool.{false≢true}
use Rattle.pool_versions.proofs.Alike.{parts_more, parts_at}
use Rattle.pool_versions.proofs.same.are_services.Goals as goal

pub loop-at-preserved : goal.loop-at-preserved
loop-at-preserved c =
    let below : c.loop-at.at < length c.args.others.now = omega (arith, c.if-services-others.false, c.loop-at-test.true) in
    parts_more c.args.services.now c.args.others.now c.loop-at.at c.index-services-at.result c.index-others-at.result c.loop-at-test.true below c.index-services-at.is c.index-others-at.is c.loop-at.invariant (c.is_service.ensures.0 c.if-not-is_service.false)

pub returns-then-not-is_service : goal.returns-then-not-is_service
returns-then-not-is_service c =
    let below : c.loop-at.at < length c.args.others.now = omega (arith, c.if-services-others.false, c.loop-at-test.true) in (
      λ h. absurd (false≢true h),
      λ e. sym c.if-not-is_service.true ∙ c.is_service.ensures.1 (parts_at c.args.services.now c.args.others.now c.loop-at.at c.index-services-at.result c.index-others-at.result c.loop-at-test.true below c.index-services-at.is c.index-others-at.is e),
    )
