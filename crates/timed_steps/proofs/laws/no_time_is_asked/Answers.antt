use Rattle.std.proofs.Common.{[]}
use Rattle.timed_steps.specs.Timed.{first_of}
use Rattle.timed_steps.proofs.Timing.{asks_none}
use Rattle.timed_steps.proofs.laws.no_time_is_asked.Goals as goal

pub returns : goal.returns
returns c = λ times ss e. asks_none (first_of times) 0 times [] ss e
