use Rattle.forwarder.proofs.Draining.{nobody_drains, kept_where_nobody_drains}
use Rattle.forwarder.proofs.laws.only_drains_are_new.Goals as goal

pub returns-clause-same : goal.returns-clause-same
returns-clause-same c = λ b ups none. nobody_drains b ups none

pub returns-clause-entries : goal.returns-clause-entries
returns-clause-entries c = λ e ups none. kept_where_nobody_drains e ups none
