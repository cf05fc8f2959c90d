-- What the records of a life are judged to be.
use Rattle.std.proofs.Common.{◌≡◌, ◌≤◌, ℕ, zero, suc, Bool, true, List, [], ◌∷◌, Result, Ok, Err, length, refl, sym, subst, arith}
use Rattle.std.specs.Prelude.{not, slice_get, IsErrAnd}
use Rattle.pool_versions.specs.Pool.{Pools}
use Rattle.cluster_core.specs.Setups.{Fixed}
use Rattle.thread_records.specs.Works.{WorkView}
use Rattle.thread_records.specs.Journals.{JournalView}
use Rattle.thread_records.specs.declared.command.Command.{Command}
use Rattle.thread_roles.specs.Going.{stops}
use Rattle.thread_roles.specs.declared.fault.RunFault.{RunFault}
use Rattle.thread_records.specs.declared.journal.closing.LifeFault.{LifeFault}
use Rattle.thread_records.specs.declared.journal.closing.LifeFault.TheVariants as lives
use Rattle.thread_records.specs.Ends.{all_handled, JudgesLife}
use Rattle.thread_roles.specs.Faults.{run_fault}
use Rattle.node_life.specs.Judged.{AreOfCluster, JudgesEnd}

-- behind the end of the commands there is no stop
pub stops_past : (cs : List Command) (at : ℕ) → length cs ≤ at → not (stops (slice_get cs at)) ≡ true
stops_past [] at h = refl
stops_past (c ∷ cs) zero h = absurd (omega arith)
stops_past (c ∷ cs) (suc at) h = stops_past cs at (omega arith)

module _ {S H : Type 0} (eq : S → S → Bool) (setup : Fixed S H) (pools : Pools) where
  -- a fault that is passed on
  pub judged_exit : {T : Type 0} (r : Result T RunFault) (e : RunFault) (b d : Bool) (j : JournalView) (ws : List (WorkView S)) → IsErrAnd r (λ f. f ≡ e) → b ≡ d → JudgesEnd {A = Unit {0}} eq setup pools b j ws (Err e) → JudgesEnd {A = T} eq setup pools d j ws r
  judged_exit (Ok x) e b d j ws is same told = absurd is
  judged_exit (Err f) e b d j ws is same told =
      subst (λ (c : Bool). JudgesEnd {A = Unit {0}} eq setup pools c j ws (Err f)) same
      (subst (λ (x : RunFault). JudgesEnd {A = Unit {0}} eq setup pools b j ws (Err x)) (sym is) told)

  -- the same where they fit
  pub judged_whole : (b d : Bool) (j : JournalView) (ws : List (WorkView S)) → b ≡ d → JudgesEnd {A = Unit {0}} eq setup pools b j ws (Ok tt) → JudgesEnd {A = Unit {0}} eq setup pools d j ws (Ok tt)
  judged_whole b d j ws same told = subst (λ (c : Bool). JudgesEnd {A = Unit {0}} eq setup pools c j ws (Ok tt)) same told

  -- a fault of a life whose workers are the cluster's
  pub judged_fault : (d : Bool) (j : JournalView) (ws : List (WorkView S)) (fault : LifeFault) (f : RunFault) → f ≡ run_fault fault → AreOfCluster eq setup pools ws → JudgesLife {A = Unit {0}} d j (all_handled ws) (Err fault) → JudgesEnd {A = Unit {0}} eq setup pools d j ws (Err f)
  judged_fault d j ws lives.Foreign f is own told = subst (λ (x : RunFault). JudgesEnd {A = Unit {0}} eq setup pools d j ws (Err x)) (sym is) (λ all. told)
  judged_fault d j ws lives.RingLost f is own told = subst (λ (x : RunFault). JudgesEnd {A = Unit {0}} eq setup pools d j ws (Err x)) (sym is) (own, told)
  judged_fault d j ws lives.Memory f is own told = subst (λ (x : RunFault). JudgesEnd {A = Unit {0}} eq setup pools d j ws (Err x)) (sym is) tt
