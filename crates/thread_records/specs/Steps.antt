-- What came of a worker's step.
use Rattle.std.specs.Prelude.{Bool, true, false}
use Rattle.forwarder.specs.declared.Served.{Served}
use Rattle.thread_records.specs.declared.step.Step.{Step}
use Rattle.thread_records.specs.declared.step.Step.TheVariants.{Done, Behind}

abbrev pub is_behind : Step → Bool
is_behind (Done s) = false
is_behind Behind = true

abbrev pub MatchStep : Step → (Served → Type 0) → Type 0 → Type 0
MatchStep (Done s) P Q = P s
MatchStep Behind P Q = Q
