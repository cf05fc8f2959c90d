use Rattle.std.proofs.Common.{arith, ◌∙◌}
use Rattle.ip_headers.proofs.Words.{next_word, less_full}
use Rattle.ip_headers.proofs.checksum.wide_sum.Goals as goal

pub loop-left-preserved-then-sum-gt-FULL : goal.loop-left-preserved-then-sum-gt-FULL
loop-left-preserved-then-sum-gt-FULL c =
    let word = next_word c.loop-left.sum _ c.loop-left.left.now c.in-len4-up.len_at_least (c.from-sum.ensures ∙ c.from_be_bytes.ensures) in
    record { small = omega arith; same = less_full _ _ c.if-sum-gt-FULL.true ∙ word ∙ c.loop-left.invariant.same }

pub loop-left-preserved : goal.loop-left-preserved
loop-left-preserved c =
    let word = next_word c.loop-left.sum _ c.loop-left.left.now c.in-len4-up.len_at_least (c.from-sum.ensures ∙ c.from_be_bytes.ensures) in
    record { small = omega arith; same = word ∙ c.loop-left.invariant.same }
