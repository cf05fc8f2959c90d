use Rattle.std.proofs.Common.{◌≡◌, ◌++◌, string_bytes, take}
use Rattle.std.specs.List.{flat_map}
use Rattle.scenario_sketch.specs.Text.{service_text}
use Rattle.scenario_sketch.proofs.sketch_text.push_all.Given as goal

abbrev pub invariant-loop-counted : goal.invariant-loop-counted
invariant-loop-counted l = string_bytes l.text ≡ string_bytes l.initial.text ++ flat_map service_text (take l.counted-index l.ranked)
