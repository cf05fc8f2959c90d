-- Why a node's run has no record, as far as records tell.
use Rattle.std.specs.Prelude.{◌⊎◌, ℕ, Bool, List, Err}
use Rattle.cluster_node.specs.Rules.{Rules}
use Rattle.cluster_node.specs.declared.outcomes.Outcome.{Outcome}
use Rattle.thread_records.specs.declared.nodes.NodeRecord.{NodeRecord}
use Rattle.thread_records.specs.declared.journal.closing.LifeFault.TheVariants as lives
use Rattle.thread_records.specs.Ends.{JudgesRun}
use Rattle.thread_records.specs.Journals.{JournalView}
use Rattle.thread_records.specs.Runs.{IsRunOf}
use Rattle.thread_roles.specs.Going.{Asked, IsLast}
use Rattle.thread_roles.specs.declared.fault.RunFault.{RunFault}
use Rattle.thread_roles.specs.declared.fault.RunFault.TheVariants.{Foreign, RingLost, ThreadLost, BookLost, Memory}
use Rattle.node_life.specs.Told.{LifeHas}

-- A node's lives all ended, and their run has RingLost: a ring refused too early, or what was gathered of a life isn't a merge
-- of what its workers sent.
pub record RunHas {S H : Type 0} (rules : Rules) (asked : Asked S H) : Type 0 where
  pub journal : JournalView
  pub sent : List (List Outcome)
  pub last : IsLast rules asked.packets asked.commands asked.node asked.ring journal
  pub judged : JudgesRun {A = Unit {0}} journal sent (Err lives.RingLost)

-- Foreign is told of the first life that doesn't fit, and so is RingLost, unless all lives ended and their run has it. BookLost
-- is told of a whole run alone. Memory and ThreadLost no record tells.
unfoldable pub NodeTells : {S H : Type 0} → (S → S → Bool) → Rules → Asked S H → RunFault → Type 0
NodeTells eq rules asked Foreign = (start : ℕ) × LifeHas eq rules asked start Foreign
NodeTells eq rules asked RingLost = ((start : ℕ) × LifeHas eq rules asked start RingLost) ⊎ RunHas rules asked
NodeTells eq rules asked ThreadLost = Unit {0}
NodeTells eq rules asked BookLost = (r : NodeRecord) × IsRunOf rules asked.packets asked.node asked.ring asked.commands r
NodeTells eq rules asked Memory = Unit {0}
