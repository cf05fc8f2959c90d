use Rattle.std.proofs.Common.{◌≡◌, ◌+◌, ◌∙◌, arith, ◌&&◌, false, true, ap, slice_index_or}
use Rattle.maglev_table.specs.Turns.{preferred}
use Rattle.maglev_table.proofs.Walks.{place_behind, second_behind, past_two, free_behind}
use Rattle.maglev_table.proofs.filling.ByTwoSeek.next_free.Goals as goal

pub loop-walk-init : goal.loop-walk-init
loop-walk-init c = record {
  here = c.requires.here;
  next = c.after-next.ensures.value ∙ place_behind c.args.list.now c.args.from.place c.args.from.slot c.requires.here;
  low = omega arith;
  ahead = c.requires.free;
  first = λ place low high. absurd (omega arith);
}

pub loop-walk-preserved : goal.loop-walk-preserved
loop-walk-preserved c =
    let walk = c.loop-walk.invariant in
    let both : (slice_index_or c.args.taken.now (preferred c.args.list.now c.loop-walk.walk.place) false && slice_index_or c.args.taken.now (preferred c.args.list.now (c.loop-walk.walk.place + 1)) false) ≡ true =
    rw (← walk.here, ← walk.next) c.loop-walk-test.true in
    let further : c.loop-walk.walk.place + 1 + 2 ≡ c.loop-walk.walk.place + 2 + 1 = omega arith in
    record {
      here = c.second_after.ensures.value ∙ second_behind c.args.list.now c.loop-walk.walk.place c.loop-walk.walk.slot walk.here;
      next = c.second_after-next.ensures.value ∙ second_behind c.args.list.now (c.loop-walk.walk.place + 1) c.loop-walk.next walk.next ∙ ap (preferred c.args.list.now) further;
      low = omega (arith, walk.low);
      ahead = (walk.ahead.0, free_behind c.args.list.now c.args.taken.now c.loop-walk.walk.place both walk.ahead.0 walk.ahead.1 walk.ahead.3, walk.ahead.2, walk.ahead.3);
      first = past_two c.args.list.now c.args.taken.now c.args.from.place c.loop-walk.walk.place walk.first both;
    }
