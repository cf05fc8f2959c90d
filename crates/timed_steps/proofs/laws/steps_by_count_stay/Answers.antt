use Rattle.timed_steps.specs.Timed.{first_of}
use Rattle.timed_steps.proofs.Timing.{stays}
use Rattle.timed_steps.proofs.laws.steps_by_count_stay.Goals as goal

pub returns : goal.returns
returns c = λ times ss. stays (first_of times) times ss
