use Rattle.std.proofs.Common.{◌≡◌, drop, find}
use Rattle.scenario_tables.specs.Services.{is_named}
use Rattle.scenario_tables.proofs.asking.key_named.Given as goal

abbrev pub invariant-loop-key : goal.invariant-loop-key
invariant-loop-key l = find (is_named l.word) (drop l.key-index l.keys) ≡ find (is_named l.word) l.keys
