use Rattle.driver_commands.proofs.Anytime.{known_at_any_time}
use Rattle.driver_commands.proofs.laws.known_at_any_time.Goals as goal

pub returns : goal.returns
returns c = λ times ss. known_at_any_time times ss
