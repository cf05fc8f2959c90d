use Rattle.std.proofs.Common.{◌<◌, ◌≤◌, length, map, ◌∙◌, arith}
use Rattle.std.proofs.lemmas.List.{length-set, length-map}
use Rattle.thread_records.proofs.Writing.{cleared_all, clear_step}
use Rattle.thread_records.proofs.journal.closing.clear_all.Goals as goal

pub loop-at-preserved : goal.loop-at-preserved
loop-at-preserved c =
    let below : c.loop-at.at < length c.args.placed.now.items = omega (arith, c.loop-at-test.true, c.len-at-end.ensures) in (
      length-set c.loop-at.placed.items c.loop-at.at c.clear.new.self ∙ c.loop-at.invariant.0,
      clear_step (λ v. v.items) c.loop-at.placed.items c.args.placed.now.items c.loop-at.at c.clear.new.self below c.clear.ensures.items c.loop-at.invariant.1,
    )

pub returns-clause-lists : goal.returns-clause-lists
returns-clause-lists c =
    let all : length (map (λ v. v.items) c.args.placed.now.items) ≤ c.loop-at.at = omega (arith, length-map c.args.placed.now.items (λ v. v.items), c.loop-at-test.false, c.len-at-end.ensures) in
    c.loop-at.invariant.1 ∙ cleared_all (map (λ v. v.items) c.args.placed.now.items) c.loop-at.at all
