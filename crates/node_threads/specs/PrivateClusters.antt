-- The nodes of a cluster by number, their runs with what was counted on all of them, and the first of their faults.
use Rattle.std.specs.Prelude.{◌≡◌, ℕ, ◌+◌, true, List, [], ◌∷◌, Option, Some, None, Result, Ok, Err, Contains}
use Rattle.stats_book.specs.declared.stats.Stats.{Stats}
use Rattle.cluster_node.specs.Rules.{Rules}
use Rattle.thread_records.specs.declared.command.Command.{Command}
use Rattle.thread_records.specs.declared.nodes.NodeRecord.{NodeRecord}
use Rattle.thread_records.specs.Joins.{all_outcomes}
use Rattle.thread_records.specs.Paced.{NoneRefused}
use Rattle.thread_records.specs.Runs.{AreRuns}
use Rattle.thread_roles.specs.Counts.{AreRead, AreTotals}
use Rattle.thread_roles.specs.declared.fault.RunFault.{RunFault}
use Rattle.thread_roles.specs.declared.fault.RunFault.TheVariants.{Foreign, RingLost, ThreadLost, BookLost, Memory}
use Rattle.node_threads.specs.Orders.{AllAsked}
use Rattle.node_threads.specs.Reported.{ComesFirst}

-- these are the numbers from one on, in order
abbrev pub AreNumbered : ℕ → List ℕ → Type 0
AreNumbered k [] = Unit {0}
AreNumbered k (n ∷ ns) = (n ≡ k) × AreNumbered (k + 1) ns

-- why there is no answer, if there is none
abbrev pub fault_in : {A : Type 0} → Result A RunFault → Option RunFault
fault_in (Ok x) = None
fault_in (Err fault) = Some fault

-- What is to be reported of these: nothing where there is no fault, and else the first of them. Nothing is said of Memory and
-- ThreadLost.
abbrev pub IsSumUp : List (Option RunFault) → Option RunFault → Type 0
IsSumUp fs None = (other : RunFault) → Contains fs (Some other) → ⊥
IsSumUp fs (Some Foreign) = ComesFirst Foreign fs
IsSumUp fs (Some RingLost) = ComesFirst RingLost fs
IsSumUp fs (Some ThreadLost) = Unit {0}
IsSumUp fs (Some BookLost) = ComesFirst BookLost fs
IsSumUp fs (Some Memory) = Unit {0}

-- runs of all nodes, and the totals of all their outcomes
pub record AreCounted {S H : Type 0} (rules : Rules) (all : AllAsked S H) (commands : List (List Command)) (rs : List NodeRecord)
    (stats : Stats) : Type 0 where
  pub runs : AreRuns rules all.packets all.ring 0 commands rs
  pub counts : AreRead all.packets → AreTotals stats (all_outcomes rs)
  pub unmarked : all.paced ≡ true → NoneRefused rs
