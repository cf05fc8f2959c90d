use Rattle.std.proofs.Common.{drop, map, string_bytes}
use Rattle.scenario.specs.Told.{steps_of}
use Rattle.scenario.proofs.Telling.{Added}
use Rattle.scenario.proofs.reading.steps_of.Given as goal

abbrev pub invariant-loop-n : goal.invariant-loop-n
invariant-loop-n l = Added l.rules l.n l.steps.items (map string_bytes (drop l.n l.texts)) (steps_of l.rules 100000 (map string_bytes l.texts))
