-- A cluster that places every packet on the first worker, and has no node of which anything is kept.
use Rattle.std.specs.Prelude.{ℕ}
use Rattle.cluster_node.specs.declared.events.Event.{Event}
use Rattle.cluster_node.specs.declared.events.Event.TheVariants.{Install, Arrive, Serve, Restart}
use Rattle.cluster_node.specs.declared.outcomes.Outcome.{Outcome}
use Rattle.cluster_node.specs.declared.outcomes.Outcome.TheVariants.{Installed, Placed, Dropped, Restarted}
use Rattle.cluster_node.specs.declared.outcomes.Cause.TheVariants.{NoService}
use Rattle.cluster_core.specs.Cluster.{Cluster}

abbrev pub answer : Event → Outcome
answer (Install n v) = Installed
answer (Arrive n k marks) = Placed 0 0
answer (Serve n w v r) = Dropped w NoService
answer (Restart n) = Restarted 0

abbrev pub placing : ℕ → Cluster
placing workers = record { judge = λ past e p. answer e; nodes = 0; workers = workers }
