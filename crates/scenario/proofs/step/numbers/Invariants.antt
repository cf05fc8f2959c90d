use Rattle.std.proofs.Common.{◌≡◌, drop, map, []}
use Rattle.scenario.specs.Steps.{numbers_after}
use Rattle.scenario.proofs.step.numbers.Given as goal

abbrev pub invariant-loop-text : goal.invariant-loop-text
invariant-loop-text l = numbers_after l.limit l.found.items (map (λ t. t.now) (drop l.text-index l.texts)) ≡ numbers_after l.limit [] (map (λ t. t.now) l.texts)
