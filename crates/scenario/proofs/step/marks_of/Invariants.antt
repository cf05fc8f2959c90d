use Rattle.std.proofs.Common.{◌≡◌, ◌<◌, ℕ, false, length, get_or, ◌==◌}
use Rattle.std.specs.List.{list_any}
use Rattle.scenario.proofs.step.marks_of.Given as goal

abbrev pub invariant-loop-worker : goal.invariant-loop-worker
invariant-loop-worker l = record {
  long : length l.marks ≡ 16;
  each : (k : ℕ) → k < l.worker-counter → get_or l.marks k false ≡ list_any (λ other. other == k) l.named;
}
