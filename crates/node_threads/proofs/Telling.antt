-- What a node's run tells of a fault.
use Rattle.std.proofs.Common.{◌≡◌, ℕ, Bool, List, inl, inr, sym, subst}
use Rattle.std.specs.Prelude.{Result, Ok, Err, IfErr, IsErrAnd}
use Rattle.cluster_node.specs.Rules.{Rules}
use Rattle.cluster_node.specs.declared.outcomes.Outcome.{Outcome}
use Rattle.thread_records.specs.declared.nodes.NodeRecord.{NodeRecord}
use Rattle.thread_records.specs.declared.journal.closing.LifeFault.TheVariants as lives
use Rattle.thread_records.specs.Ends.{JudgesRun}
use Rattle.thread_records.specs.Journals.{JournalView}
use Rattle.thread_records.specs.Runs.{IsRunOf}
use Rattle.thread_roles.specs.Going.{Asked, IsLast}
use Rattle.thread_roles.specs.declared.fault.RunFault.{RunFault}
use Rattle.thread_roles.specs.declared.fault.RunFault.TheVariants.{Foreign, RingLost, ThreadLost, BookLost, Memory}
use Rattle.node_life.specs.Told.{LifeTells}
use Rattle.node_threads.specs.Told.{NodeTells}

-- a fault that is passed on
pub err_exit : {T E : Type 0} (P : E → Type 0) (r : Result T E) (e : E) → IsErrAnd r (λ f. f ≡ e) → P e → IfErr r P
err_exit P (Ok x) e is p = absurd is
err_exit P (Err f) e is p = subst P (sym is) p

module _ {S H : Type 0} (eq : S → S → Bool) (rules : Rules) (asked : Asked S H) where
  pub life_tells : (start : ℕ) (fault : RunFault) → LifeTells eq rules asked start fault → NodeTells eq rules asked fault
  unfolding LifeTells NodeTells
  life_tells start Foreign h = (start, h)
  life_tells start RingLost h = inl (start, h)
  life_tells start ThreadLost h = tt
  life_tells start BookLost h = absurd h
  life_tells start Memory h = tt

  -- a run of lives that all ended
  pub run_tells : (j : JournalView) (sent : List (List Outcome)) (fault : RunFault) → IsLast rules asked.packets asked.commands asked.node asked.ring j → (fault ≡ RingLost) × JudgesRun {A = Unit {0}} j sent (Err lives.RingLost) → NodeTells eq rules asked fault
  unfolding NodeTells
  run_tells j sent fault last h = let lost : NodeTells eq rules asked RingLost = inr (record { journal = j; sent = sent; last = last; judged = h.1 }) in subst (λ (f : RunFault). NodeTells eq rules asked f) (sym h.0) lost

  -- a whole run, on which a count was refused
  pub book_tells : (r : NodeRecord) (fault : RunFault) → IsRunOf rules asked.packets asked.node asked.ring asked.commands r → fault ≡ BookLost → NodeTells eq rules asked fault
  unfolding NodeTells
  book_tells r fault is e = let lost : NodeTells eq rules asked BookLost = (r, is) in subst (λ (f : RunFault). NodeTells eq rules asked f) (sym e) lost

  pub memory_tells : NodeTells eq rules asked Memory
  unfolding NodeTells
  memory_tells = tt
