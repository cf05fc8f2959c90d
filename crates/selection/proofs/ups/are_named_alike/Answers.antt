use Rattle.std.proofs.Common.{◌<◌, ◌∙◌, ap, sym, length, arith}
use Rattle.pool_versions.specs.declared.backend.Backend.{Backend}
use Rattle.selection.proofs.Sharing.{names_more}
use Rattle.selection.proofs.ups.are_named_alike.Goals as goal

pub loop-at-preserved : goal.loop-at-preserved
loop-at-preserved c =
    let below : c.loop-at.at < length c.args.others.now = omega (arith, c.if-ups-others.false, c.loop-at-test.true) in
    names_more c.args.ups.now c.args.others.now c.loop-at.at c.index-ups-at.result c.index-others-at.result c.loop-at-test.true below c.index-ups-at.is c.index-others-at.is c.loop-at.invariant (ap (λ (b : Backend). b.name) c.index-ups-at.is ∙ c.is_named.ensures c.if-not-is_named.false ∙ sym (ap (λ (b : Backend). b.name) c.index-others-at.is))
