use Rattle.std.proofs.Common.{◌≡◌, ◌+◌, ◌≤◌, ◌&&◌, not}
use Rattle.rollout_plan.specs.Counts.{slots_where, stays_up, who_drains}
use Rattle.table_commands.specs.Compare.{is_moved, named_at}
use Rattle.rollout_plan.proofs.counting.causes_of.Given as goal

abbrev pub invariant-loop-slot : goal.invariant-loop-slot
invariant-loop-slot l = record {
  down : l.down ≡ slots_where (λ slot. is_moved l.before l.after slot && (not (stays_up l.after (named_at l.before slot)) && not (who_drains l.draining (named_at l.before slot)))) l.slot;
  moved : l.moved ≡ slots_where (λ slot. is_moved l.before l.after slot && stays_up l.after (named_at l.before slot)) l.slot;
  drained : l.drained ≡ slots_where (λ slot. is_moved l.before l.after slot && (not (stays_up l.after (named_at l.before slot)) && who_drains l.draining (named_at l.before slot))) l.slot;
  few : l.down + l.moved + l.drained ≤ l.slot;
}
