use Rattle.std.proofs.Common.{ap, ◌∙◌, map, arith}
use Rattle.std.proofs.lemmas.List.{take_all}
use Rattle.connection_changes.specs.Changes.{cause_in}
use Rattle.connection_changes.proofs.Told.{causes_more}
use Rattle.connection_changes.proofs.summary.causes_of.Goals as goal

pub loop-change-preserved : goal.loop-change-preserved
loop-change-preserved c = λ lookups ups versions.
    causes_more (λ d. cause_in lookups c.args.idle d) c.args.changes.now c.loop-change.change-index c.change-item.result c.loop-change.causes.items _ c.cause_with.result c.loop-change-test.true c.change-item.is
    (c.cause_with.ensures lookups ups versions) c.in-Ok.ensures.items (c.loop-change.invariant lookups ups versions)

pub returns : goal.returns
returns c = λ lookups ups versions. c.loop-change.invariant lookups ups versions ∙ ap (λ l. map (λ d. cause_in lookups c.args.idle d) l) (take_all c.loop-change.change-index c.args.changes.now (omega arith))
