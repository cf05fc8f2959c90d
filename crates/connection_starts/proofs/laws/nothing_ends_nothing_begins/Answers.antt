use Rattle.connection_starts.proofs.Quiet.{quiet}
use Rattle.connection_starts.proofs.laws.nothing_ends_nothing_begins.Goals as goal

pub returns : goal.returns
returns c = quiet
