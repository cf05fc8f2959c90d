use Rattle.cluster_core.proofs.Order.{sound, verdict_sends}
use Rattle.cluster_core.proofs.laws.queues_are_in_order.Goals as goal

pub returns-clause-sound : goal.returns-clause-sound
returns-clause-sound c = λ rules past j n w. sound rules past j n w

pub returns-clause-first : goal.returns-clause-first
returns-clause-first c = λ rules past e p n w place x b v h. verdict_sends n w place x b v rules past e p h
