use Rattle.cluster_core.proofs.Balanced.{records_balance, lists_balance}
use Rattle.cluster_core.proofs.laws.queues_are_balanced.Goals as goal

pub returns-clause-records : goal.returns-clause-records
returns-clause-records c = λ rules past j read. records_balance rules past j read

pub returns-clause-lists : goal.returns-clause-lists
returns-clause-lists c = λ rules packets events read. lists_balance rules packets events read
