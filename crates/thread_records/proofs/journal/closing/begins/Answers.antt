use Rattle.std.proofs.Common.{◌<◌, length, sym, ◌∙◌, arith}
use Rattle.std.proofs.lemmas.Bool.{true≢false}
use Rattle.thread_records.proofs.Ends.{begins_short, begins_more, begins_not, none_within}
use Rattle.thread_records.proofs.journal.closing.begins.Goals as goal

pub returns-then-len-placed : goal.returns-then-len-placed
returns-then-len-placed c = ((λ t. absurd (cc)), (λ e. absurd (omega (arith, begins_short c.args.handled.now.items c.args.placed.now e, c.len.ensures, c.if-len-placed.true))))

pub returns-in_default : goal.returns-in_default
returns-in_default c = absurd (none_within c.args.handled.now.items c.loop-at.at (sym c.get.ensures ∙ c.in_default.is) (omega (arith, c.loop-at-test.true, c.len-at-end.ensures)))

pub returns-then-not-is_item : goal.returns-then-not-is_item
returns-then-not-is_item c = (
  (λ t. absurd (cc)),
  (λ e. absurd (begins_not c.args.handled.now.items c.args.placed.now c.loop-at.at c.in-Some.one _ (sym c.get.ensures ∙ c.in-Some.is) (λ same. true≢false (sym (c.is_item.ensures.1 same) ∙ c.if-not-is_item.true)) e)),
)

pub loop-at-preserved : goal.loop-at-preserved
loop-at-preserved c =
    let below : c.loop-at.at < length c.args.placed.now = omega (arith, c.loop-at-test.true, c.len-at-end.ensures, c.len.ensures, c.if-len-placed.false) in
    begins_more c.args.handled.now.items c.args.placed.now c.loop-at.at c.in-Some.one _ (sym c.get.ensures ∙ c.in-Some.is) below (c.is_item.ensures.0 c.if-not-is_item.false) c.loop-at.invariant
