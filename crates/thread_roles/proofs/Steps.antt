-- What a step of a worker says of more.
use Rattle.forwarder.specs.declared.Served.{Served}
use Rattle.thread_records.specs.declared.step.Step.{Step}
use Rattle.thread_records.specs.declared.step.Step.TheVariants.{Done, Behind}
use Rattle.thread_records.specs.Steps.{MatchStep}

pub step_weaker : (step : Step) (P R : Served → Type 0) (Q : Type 0) → ((s : Served) → P s → R s) → MatchStep step P Q → MatchStep step R Q
step_weaker (Done s) P R Q f h = f s h
step_weaker Behind P R Q f h = h
