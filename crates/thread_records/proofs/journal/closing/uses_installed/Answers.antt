use Rattle.std.proofs.Common.{sym, ◌∙◌, arith}
use Rattle.thread_records.proofs.Ends.{uses_more, uses_not, none_within}
use Rattle.thread_records.proofs.journal.closing.uses_installed.Goals as goal

pub returns-in_default : goal.returns-in_default
returns-in_default c = absurd (none_within c.args.handled.now.items c.loop-at.at (sym c.get.ensures ∙ c.in_default.is) (omega (arith, c.loop-at-test.true, c.len-at-end.ensures)))

pub returns-then-not-has : goal.returns-then-not-has
returns-then-not-has c = sym (uses_not c.args.installed.now c.args.handled.now.items c.loop-at.at c.in-Some.one (sym c.get.ensures ∙ c.in-Some.is) (sym c.has.ensures ∙ c.if-not-has.true))

pub loop-at-preserved : goal.loop-at-preserved
loop-at-preserved c = uses_more c.args.installed.now c.args.handled.now.items c.loop-at.at c.in-Some.one (sym c.get.ensures ∙ c.in-Some.is) c.loop-at.invariant (sym c.has.ensures ∙ c.if-not-has.false)
