-- Why a life that was driven has no end, as far as its records tell.
use Rattle.std.specs.Prelude.{ℕ, Bool, List, Some, None, Result, Ok, Err, All, not, slice_get}
use Rattle.pool_versions.specs.Pool.{Pools}
use Rattle.cluster_core.specs.Setups.{Fixed}
use Rattle.thread_records.specs.Works.{WorkView, IsWorkerOf}
use Rattle.thread_records.specs.Journals.{JournalView}
use Rattle.thread_records.specs.Ends.{all_handled, IsLifeFault}
use Rattle.thread_records.specs.declared.journal.closing.LifeFault.TheVariants as lives
use Rattle.thread_records.specs.declared.command.Command.{Command}
use Rattle.thread_roles.specs.Going.{stops}
use Rattle.thread_roles.specs.declared.fault.RunFault.{RunFault}
use Rattle.thread_roles.specs.declared.fault.RunFault.TheVariants.{Foreign, RingLost, ThreadLost, BookLost, Memory}

-- a life that ends at this place of the commands is drained: there is no stop
abbrev pub drained_at : List Command → ℕ → Bool
drained_at cs at = not (stops (slice_get cs at))

-- each version that these workers used is the catalogue's, prepared for the cluster
abbrev pub AreOfCluster : {S H : Type 0} → (S → S → Bool) → Fixed S H → Pools → List (WorkView S) → Type 0
AreOfCluster eq setup pools ws = All (IsWorkerOf eq setup pools) ws

-- The answer is Ok only where each version that was used is the catalogue's and the records fit the journal. Foreign: a
-- version isn't the catalogue's, or wasn't installed. RingLost: that isn't so, and what was taken isn't what was placed.
-- Memory may be answered at any time, and no other fault is.
abbrev pub JudgesEnd : {A S H : Type 0} → (S → S → Bool) → Fixed S H → Pools → Bool → JournalView → List (WorkView S) → Result A RunFault → Type 0
JudgesEnd eq setup pools drained j ws (Ok x) = AreOfCluster eq setup pools ws × IsLifeFault drained j (all_handled ws) None
JudgesEnd eq setup pools drained j ws (Err Foreign) = AreOfCluster eq setup pools ws → IsLifeFault drained j (all_handled ws) (Some lives.Foreign)
JudgesEnd eq setup pools drained j ws (Err RingLost) = AreOfCluster eq setup pools ws × IsLifeFault drained j (all_handled ws) (Some lives.RingLost)
JudgesEnd eq setup pools drained j ws (Err ThreadLost) = ⊥
JudgesEnd eq setup pools drained j ws (Err BookLost) = ⊥
JudgesEnd eq setup pools drained j ws (Err Memory) = Unit {0}
