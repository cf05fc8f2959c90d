-- Why a life has no end, as far as its records tell.
use Rattle.std.specs.Prelude.{ℕ, Bool, List, Err}
use Rattle.cluster_node.specs.Rules.{Rules}
use Rattle.thread_records.specs.Journals.{JournalView}
use Rattle.thread_records.specs.Works.{WorkView}
use Rattle.thread_roles.specs.Going.{Asked, IsDriven}
use Rattle.thread_roles.specs.declared.fault.RunFault.{RunFault}
use Rattle.thread_roles.specs.declared.fault.RunFault.TheVariants.{Foreign, RingLost, ThreadLost, BookLost, Memory}
use Rattle.node_life.specs.Judged.{JudgesEnd, drained_at}

-- A life of a node, from a place of its commands on, has this fault. It was driven up to a place, and the journal and the
-- workers' records that it left are judged so.
pub record LifeHas {S H : Type 0} (eq : S → S → Bool) (rules : Rules) (asked : Asked S H) (start : ℕ) (fault : RunFault) : Type 0 where
  pub stop : ℕ
  pub journal : JournalView
  pub workers : List (WorkView S)
  pub driven : IsDriven rules asked.packets asked.commands asked.node asked.ring start stop journal
  pub judged : JudgesEnd {A = Unit {0}} eq asked.setup asked.catalogue (drained_at asked.commands stop) journal workers (Err fault)

-- Foreign and RingLost are told of a life that has them. Memory and ThreadLost no record tells, and BookLost isn't told of a
-- life.
unfoldable pub LifeTells : {S H : Type 0} → (S → S → Bool) → Rules → Asked S H → ℕ → RunFault → Type 0
LifeTells eq rules asked start Foreign = LifeHas eq rules asked start Foreign
LifeTells eq rules asked start RingLost = LifeHas eq rules asked start RingLost
LifeTells eq rules asked start ThreadLost = Unit {0}
LifeTells eq rules asked start BookLost = ⊥
LifeTells eq rules asked start Memory = Unit {0}
