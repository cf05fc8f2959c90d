-- Faults that are passed on, and what they tell of a life.
use Rattle.std.proofs.Common.{◌≡◌, ℕ, Bool, List, sym, subst}
use Rattle.std.specs.Prelude.{Result, Ok, Err, IsOk, OnOk, IsErrAnd, MatchResult}
use Rattle.std.proofs.lemmas.Bool.{false≢true}
use Rattle.cluster_node.specs.Rules.{Rules}
use Rattle.thread_records.specs.Journals.{JournalView}
use Rattle.thread_records.specs.Works.{WorkView}
use Rattle.thread_roles.specs.Faults.{IsRefusal}
use Rattle.thread_roles.specs.Going.{Asked, IsDriven}
use Rattle.thread_roles.specs.declared.fault.RunFault.{RunFault}
use Rattle.thread_roles.specs.declared.fault.RunFault.TheVariants.{Foreign, RingLost, ThreadLost, BookLost, Memory}
use Rattle.node_life.specs.Judged.{JudgesEnd, drained_at}
use Rattle.node_life.specs.Told.{LifeTells}

-- a fault that is passed on
pub match_exit : {T E : Type 0} (Q : T → Type 0) (P : E → Type 0) (r : Result T E) (e : E) → IsErrAnd r (λ f. f ≡ e) → P e → MatchResult r Q P
match_exit Q P (Ok x) e is p = absurd is
match_exit Q P (Err f) e is p = subst P (sym is) p

-- what a success says, where there is one
pub is_ok_on : {T E : Type 0} (P : Type 0) (r : Result T E) → IsOk r → OnOk r P → P
is_ok_on P (Ok x) is p = p
is_ok_on P (Err e) is p = absurd (false≢true is)

pub is_memory : (fault : RunFault) → fault ≡ Memory → IsRefusal fault
is_memory fault e = subst IsRefusal (sym e) tt

module _ {S H : Type 0} (eq : S → S → Bool) (rules : Rules) (asked : Asked S H) where
  pub refusal_tells : (start : ℕ) (fault : RunFault) → IsRefusal fault → LifeTells eq rules asked start fault
  unfolding LifeTells
  refusal_tells start Foreign h = absurd h
  refusal_tells start RingLost h = absurd h
  refusal_tells start ThreadLost h = tt
  refusal_tells start BookLost h = absurd h
  refusal_tells start Memory h = tt

  pub end_tells : {A : Type 0} (start stop : ℕ) (j : JournalView) (ws : List (WorkView S)) (r : Result A RunFault) (fault : RunFault) → r ≡ Err fault → IsDriven rules asked.packets asked.commands asked.node asked.ring start stop j → JudgesEnd {A = A} eq asked.setup asked.catalogue (drained_at asked.commands stop) j ws r → LifeTells eq rules asked start fault
  unfolding LifeTells
  end_tells start stop j ws (Ok x) fault e d h = absurd (cc)
  end_tells start stop j ws (Err Foreign) fault e d h = let same : Foreign ≡ fault = cc in subst (λ (x : RunFault). LifeTells eq rules asked start x) same (record { stop = stop; journal = j; workers = ws; driven = d; judged = h })
  end_tells start stop j ws (Err RingLost) fault e d h = let same : RingLost ≡ fault = cc in subst (λ (x : RunFault). LifeTells eq rules asked start x) same (record { stop = stop; journal = j; workers = ws; driven = d; judged = h })
  end_tells start stop j ws (Err ThreadLost) fault e d h = let same : ThreadLost ≡ fault = cc in subst (λ (x : RunFault). LifeTells eq rules asked start x) same (tt)
  end_tells start stop j ws (Err BookLost) fault e d h = absurd h
  end_tells start stop j ws (Err Memory) fault e d h = let same : Memory ≡ fault = cc in subst (λ (x : RunFault). LifeTells eq rules asked start x) same (tt)
