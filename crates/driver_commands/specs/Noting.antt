-- A cluster that only takes notes: it places no packet, so that none is served.
use Rattle.cluster_node.specs.declared.events.Event.{Event}
use Rattle.cluster_node.specs.declared.events.Event.TheVariants.{Install, Arrive, Serve, Restart}
use Rattle.cluster_node.specs.declared.outcomes.Outcome.{Outcome}
use Rattle.cluster_node.specs.declared.outcomes.Outcome.TheVariants.{Installed, Dropped, Restarted}
use Rattle.cluster_node.specs.declared.outcomes.Cause.TheVariants.{NoService, RingsFull}
use Rattle.cluster_core.specs.Cluster.{Cluster}

abbrev pub answer : Event → Outcome
answer (Install n v) = Installed
answer (Arrive n k marks) = Dropped k RingsFull
answer (Serve n w v r) = Dropped w NoService
answer (Restart n) = Restarted 0

abbrev pub noting : Cluster
noting = record { judge = λ past e p. answer e; nodes = 0; workers = 0 }
