use Rattle.std.proofs.Common.{◌≡◌, ◌≤◌, ◌++◌, length, take, drop}
use Rattle.driver_commands.specs.Orders.{ended_by}
use Rattle.driver_commands.proofs.ends.end_by.Given as goal

-- the lives ended so far and those to come are all
abbrev pub invariant-loop-at : goal.invariant-loop-at
invariant-loop-at l = record {
  told : take l.at l.own.items ++ ended_by (drop l.life l.ends) (drop l.at l.own.items) ≡ ended_by l.ends l.fn.own.items;
  many : length l.own.items ≡ length l.fn.own.items;
  life : l.life ≤ l.at;
}
