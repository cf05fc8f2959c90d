use Rattle.std.proofs.Common.{◌≡◌, [], map, replicate}
use Rattle.driver_commands.proofs.drivers.empty_lists.Given as goal

abbrev pub invariant-loop : goal.invariant-loop
invariant-loop l = map (λ c. c.items) l.lists.items ≡ replicate l.counter []
