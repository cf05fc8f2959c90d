-- Which fault of a cluster's run is reported.
use Rattle.std.specs.Prelude.{ℕ, ◌+◌, ◌≤◌, Bool, List, [], ◌∷◌, Option, Some, None, Contains}
use Rattle.cluster_node.specs.Rules.{Rules}
use Rattle.thread_records.specs.declared.command.Command.{Command}
use Rattle.thread_records.specs.declared.nodes.NodeRecord.{NodeRecord}
use Rattle.thread_records.specs.Runs.{IsRunOf}
use Rattle.thread_roles.specs.Faults.{rank_of}
use Rattle.thread_roles.specs.Going.{Asked}
use Rattle.thread_roles.specs.declared.fault.RunFault.{RunFault}
use Rattle.thread_roles.specs.declared.fault.RunFault.TheVariants.{Foreign, RingLost, ThreadLost, BookLost, Memory}
use Rattle.node_threads.specs.Orders.{AllAsked, asked_one}
use Rattle.node_threads.specs.Told.{NodeTells}

-- A node has a record, or a fault that its records tell.
unfoldable pub IsTold : {S H : Type 0} → (S → S → Bool) → Rules → Asked S H → Option RunFault → Type 0
IsTold eq rules asked None = (r : NodeRecord) × IsRunOf rules asked.packets asked.node asked.ring asked.commands r
IsTold eq rules asked (Some fault) = NodeTells eq rules asked fault

-- So has each of the nodes with these commands, from this one on.
abbrev pub AreTold : {S H : Type 0} → (S → S → Bool) → Rules → AllAsked S H → ℕ → List (List Command) → List (Option RunFault) → Type 0
AreTold eq rules all node [] [] = Unit {0}
AreTold eq rules all node [] (f ∷ fs) = ⊥
AreTold eq rules all node (cs ∷ css) [] = ⊥
AreTold eq rules all node (cs ∷ css) (f ∷ fs) = IsTold eq rules (asked_one all node cs) f × AreTold eq rules all (node + 1) css fs

-- a fault is one of these, and none of them comes before it
pub record ComesFirst (fault : RunFault) (fs : List (Option RunFault)) : Type 0 where
  pub among : Contains fs (Some fault)
  pub first : (other : RunFault) → Contains fs (Some other) → rank_of fault ≤ rank_of other

-- Each node has a record or a fault that its records tell, and this one comes first of those.
pub record NodesTell {S H : Type 0} (eq : S → S → Bool) (rules : Rules) (all : AllAsked S H) (fault : RunFault) : Type 0 where
  pub faults : List (Option RunFault)
  pub told : AreTold eq rules all 0 all.commands faults
  pub first : ComesFirst fault faults

-- Foreign, RingLost and BookLost are reported so. Memory and ThreadLost no record tells.
unfoldable pub ClusterTells : {S H : Type 0} → (S → S → Bool) → Rules → AllAsked S H → RunFault → Type 0
ClusterTells eq rules all Foreign = NodesTell eq rules all Foreign
ClusterTells eq rules all RingLost = NodesTell eq rules all RingLost
ClusterTells eq rules all ThreadLost = Unit {0}
ClusterTells eq rules all BookLost = NodesTell eq rules all BookLost
ClusterTells eq rules all Memory = Unit {0}
