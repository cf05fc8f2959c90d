use Rattle.std.proofs.Common.{sym, ◌∙◌}
use Rattle.steering.proofs.Tries.{skip, takes}
use Rattle.steering.proofs.first_free.Goals as goal

pub loop-tried-preserved : goal.loop-tried-preserved
loop-tried-preserved c = sym (skip c.args.refused.now c.args.workers c.args.home c.args.first c.loop-tried.tried c.loop-tried-test.true (sym c.is_free.ensures ∙ c.if-is_free.false)) ∙ c.loop-tried.invariant

pub returns-then-is_free-clause-first : goal.returns-then-is_free-clause-first
returns-then-is_free-clause-first c = takes c.args.refused.now c.args.workers c.args.home c.args.first c.loop-tried.tried c.loop-tried-test.true (sym c.is_free.ensures ∙ c.if-is_free.true) ∙ c.loop-tried.invariant
