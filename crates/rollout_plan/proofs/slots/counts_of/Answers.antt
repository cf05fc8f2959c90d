use Rattle.std.proofs.Common.{rules, ◌<◌, ◌+◌, ◌^◌, arith}
use Rattle.maglev_table.specs.Turns.{IsOwned}
use Rattle.maglev_table.proofs.Steps.{count_fits, counted_more, counted_all}
use Rattle.rollout_plan.proofs.slots.counts_of.Goals as goal

pub overflow_add-index_mut : goal.overflow_add-index_mut
overflow_add-index_mut c =
    let fair : IsOwned c.args.backends c.args.owners.now = record { small = omega (arith, c.requires.few); owned = λ slot low. c.requires.named slot 0 low } in
    let f = count_fits _ _ _ _ _ c.loop-owner.invariant fair c.loop-owner-test.true c.index_mut.ensures.value in
    let fits : c.index_mut.result.now + 1 < 2 ^ 32 = f.1 in search rules

pub loop-owner-preserved : goal.loop-owner-preserved
loop-owner-preserved c =
    let fair : IsOwned c.args.backends c.args.owners.now = record { small = omega (arith, c.requires.few); owned = λ slot low. c.requires.named slot 0 low } in
    counted_more _ _ _ _ _ c.loop-owner.invariant fair c.loop-owner-test.true c.index_mut.ensures.value

pub returns : goal.returns
returns c = counted_all _ _ _ _ c.loop-owner.invariant c.loop-owner-test.false
