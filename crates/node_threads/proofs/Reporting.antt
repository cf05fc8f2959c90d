-- One more answer, and the fault that is reported.
use Rattle.std.proofs.Common.{◌≡◌, ◌≤◌, ◌+◌, ◌++◌, ◌∷◌, [], ℕ, Bool, List, Option, Some, None, length, inl, inr, subst, refl, arith}
use Rattle.std.specs.Prelude.{Result, Ok, Err, Contains, MatchResult, IfSome, IsSomeAnd}
use Rattle.std.proofs.lemmas.List.Elements.{Contains-push, Contains-push_cases, Contains-append_left}
use Rattle.cluster_node.specs.Rules.{Rules}
use Rattle.thread_records.specs.declared.command.Command.{Command}
use Rattle.thread_records.specs.declared.nodes.NodeRecord.{NodeRecord}
use Rattle.thread_records.specs.Runs.{IsRunOf}
use Rattle.thread_roles.specs.Faults.{IsRefusal, rank_of, first_fault}
use Rattle.thread_roles.specs.Going.{Asked}
use Rattle.thread_roles.specs.declared.fault.RunFault.{RunFault}
use Rattle.thread_roles.specs.declared.fault.RunFault.TheVariants.{Foreign, RingLost, ThreadLost, BookLost, Memory}
use Rattle.node_threads.specs.Orders.{AllAsked, asked_one}
use Rattle.node_threads.specs.Reported.{IsTold, AreTold, ComesFirst, ClusterTells}
use Rattle.node_threads.specs.Told.{NodeTells}
use Rattle.node_threads.specs.PrivateClusters.{fault_in, IsSumUp}

same_fault : (a b : RunFault) → Some a ≡ Some b → a ≡ b
same_fault a b e = cc

-- a node that has a record
first_still : (a : RunFault) (fs : List (Option RunFault)) → ComesFirst a fs → ComesFirst a (fs ++ None ∷ [])
first_still a fs h = record {
  among = Contains-append_left fs (None ∷ []) (Some a) h.among;
  first = λ other has. elim (Contains-push_cases fs None (Some other) has) [
    | inl w ↦ h.first other w
    | inr w ↦ absurd (cc)
  ];
}

-- a node whose fault comes no sooner
first_more : (a b : RunFault) (fs : List (Option RunFault)) → rank_of a ≤ rank_of b → ComesFirst a fs → ComesFirst a (fs ++ Some b ∷ [])
first_more a b fs le h = record {
  among = Contains-append_left fs (Some b ∷ []) (Some a) h.among;
  first = λ other has. elim (Contains-push_cases fs (Some b) (Some other) has) [
    | inl w ↦ h.first other w
    | inr w ↦ subst (λ (f : RunFault). rank_of a ≤ rank_of f) (same_fault b other w) le
  ];
}

-- a node whose fault comes before those that were had
first_new : (b : RunFault) (fs : List (Option RunFault)) → ((other : RunFault) → Contains fs (Some other) → rank_of b ≤ rank_of other) → ComesFirst b (fs ++ Some b ∷ [])
first_new b fs before = record {
  among = Contains-push fs (Some b);
  first = λ other has. elim (Contains-push_cases fs (Some b) (Some other) has) [
    | inl w ↦ before other w
    | inr w ↦ (let least : rank_of b ≤ rank_of b = omega arith in subst (λ (f : RunFault). rank_of b ≤ rank_of f) (same_fault b other w) least)
  ];
}

first_over : (a b : RunFault) (fs : List (Option RunFault)) → rank_of b ≤ rank_of a → ComesFirst a fs → ComesFirst b (fs ++ Some b ∷ [])
first_over a b fs le h = first_new b fs (λ other has. let next : rank_of a ≤ rank_of other = h.first other has in omega (arith, le, next))

pub none_yet : IsSumUp [] None
none_yet other has = omega (arith, has.1)

pub sums_none : (fs : List (Option RunFault)) (a : Option RunFault) → IsSumUp fs a → IsSumUp (fs ++ None ∷ []) a
sums_none fs None h = λ other has. elim (Contains-push_cases fs None (Some other) has) [
  | inl w ↦ h other w
  | inr w ↦ absurd (cc)
]
sums_none fs (Some Foreign) h = first_still Foreign fs h
sums_none fs (Some RingLost) h = first_still RingLost fs h
sums_none fs (Some ThreadLost) h = tt
sums_none fs (Some BookLost) h = first_still BookLost fs h
sums_none fs (Some Memory) h = tt

pub sums_some : (fs : List (Option RunFault)) (a : Option RunFault) (b : RunFault) → IsSumUp fs a → IsSumUp (fs ++ Some b ∷ []) (Some (first_fault a b))
sums_some fs None Foreign h = first_new Foreign fs (λ other has. absurd (h other has))
sums_some fs None RingLost h = first_new RingLost fs (λ other has. absurd (h other has))
sums_some fs None ThreadLost h = tt
sums_some fs None BookLost h = first_new BookLost fs (λ other has. absurd (h other has))
sums_some fs None Memory h = tt
sums_some fs (Some Foreign) Foreign h = first_more Foreign Foreign fs (omega arith) h
sums_some fs (Some Foreign) RingLost h = first_more Foreign RingLost fs (omega arith) h
sums_some fs (Some Foreign) ThreadLost h = tt
sums_some fs (Some Foreign) BookLost h = first_more Foreign BookLost fs (omega arith) h
sums_some fs (Some Foreign) Memory h = tt
sums_some fs (Some RingLost) Foreign h = first_over RingLost Foreign fs (omega arith) h
sums_some fs (Some RingLost) RingLost h = first_more RingLost RingLost fs (omega arith) h
sums_some fs (Some RingLost) ThreadLost h = tt
sums_some fs (Some RingLost) BookLost h = first_more RingLost BookLost fs (omega arith) h
sums_some fs (Some RingLost) Memory h = tt
sums_some fs (Some ThreadLost) Foreign h = tt
sums_some fs (Some ThreadLost) RingLost h = tt
sums_some fs (Some ThreadLost) ThreadLost h = tt
sums_some fs (Some ThreadLost) BookLost h = tt
sums_some fs (Some ThreadLost) Memory h = tt
sums_some fs (Some BookLost) Foreign h = first_over BookLost Foreign fs (omega arith) h
sums_some fs (Some BookLost) RingLost h = first_over BookLost RingLost fs (omega arith) h
sums_some fs (Some BookLost) ThreadLost h = tt
sums_some fs (Some BookLost) BookLost h = first_more BookLost BookLost fs (omega arith) h
sums_some fs (Some BookLost) Memory h = tt
sums_some fs (Some Memory) Foreign h = tt
sums_some fs (Some Memory) RingLost h = tt
sums_some fs (Some Memory) ThreadLost h = tt
sums_some fs (Some Memory) BookLost h = tt
sums_some fs (Some Memory) Memory h = tt

pub refused_still : (a : Option RunFault) (b : RunFault) → IsSomeAnd a (λ f. IsRefusal f) → IsSomeAnd (Some (first_fault a b)) (λ f. IsRefusal f)
refused_still None b h = absurd h
refused_still (Some Foreign) b h = absurd h
refused_still (Some RingLost) b h = absurd h
refused_still (Some ThreadLost) Foreign h = tt
refused_still (Some ThreadLost) RingLost h = tt
refused_still (Some ThreadLost) ThreadLost h = tt
refused_still (Some ThreadLost) BookLost h = tt
refused_still (Some ThreadLost) Memory h = tt
refused_still (Some BookLost) b h = absurd h
refused_still (Some Memory) Foreign h = tt
refused_still (Some Memory) RingLost h = tt
refused_still (Some Memory) ThreadLost h = tt
refused_still (Some Memory) BookLost h = tt
refused_still (Some Memory) Memory h = tt

module _ {S H : Type 0} (eq : S → S → Bool) (rules : Rules) (asked : Asked S H) where
  -- an answer is a run's record, or a fault that is told
  pub answer_told : {X : Type 0} (Q : X → Type 0) (record_of : X → NodeRecord) (r : Result X RunFault) → ((x : X) → Q x → IsRunOf rules asked.packets asked.node asked.ring asked.commands (record_of x)) →
      MatchResult r Q (λ fault. NodeTells eq rules asked fault) → IsTold eq rules asked (fault_in r)
  unfolding IsTold
  answer_told Q record_of (Ok x) is h = (record_of x, is x h)
  answer_told Q record_of (Err fault) is h = h

module _ {S H : Type 0} (eq : S → S → Bool) (rules : Rules) (all : AllAsked S H) where
  -- one more node
  pub told_more : (k m : ℕ) (cs : List (List Command)) (c : List Command) (fs : List (Option RunFault)) (f : Option RunFault) → AreTold eq rules all k cs fs → m ≡ k + length cs → IsTold eq rules (asked_one all m c) f → AreTold eq rules all k (cs ++ c ∷ []) (fs ++ f ∷ [])
  told_more k m [] c [] f h e is = let same : m ≡ k = omega (arith, e) in (subst (λ (n : ℕ). IsTold eq rules (asked_one all n c) f) same is, tt)
  told_more k m [] c (x ∷ xs) f h e is = absurd h
  told_more k m (d ∷ ds) c [] f h e is = absurd h
  told_more k m (d ∷ ds) c (x ∷ xs) f h e is = (h.0, told_more (k + 1) m ds c xs f h.1 (omega (arith, e)) is)

  -- a fault that sums up what is told of all nodes
  summed : (fault : RunFault) (fs : List (Option RunFault)) → AreTold eq rules all 0 all.commands fs → IsSumUp fs (Some fault) → ClusterTells eq rules all fault
  unfolding ClusterTells
  summed Foreign fs told h = record { faults = fs; told = told; first = h }
  summed RingLost fs told h = record { faults = fs; told = told; first = h }
  summed ThreadLost fs told h = tt
  summed BookLost fs told h = record { faults = fs; told = told; first = h }
  summed Memory fs told h = tt

  pub refused : (fault : RunFault) → IsRefusal fault → ClusterTells eq rules all fault
  unfolding ClusterTells
  refused Foreign h = absurd h
  refused RingLost h = absurd h
  refused ThreadLost h = tt
  refused BookLost h = absurd h
  refused Memory h = tt

  -- what is reported of drivers that all were started, or were not
  pub reported : (start now : Option RunFault) (fault : RunFault) → now ≡ Some fault → IfSome start (λ f. IsRefusal f) → (IsSomeAnd start (λ f. IsRefusal f) → IsSomeAnd now (λ f. IsRefusal f)) →
      (start ≡ None → (fs : List (Option RunFault)) × AreTold eq rules all 0 all.commands fs × IsSumUp fs now) → ClusterTells eq rules all fault
  reported None now fault is had still told = let t = told refl in summed fault t.0 t.1 (subst (λ (f : Option RunFault). IsSumUp t.0 f) is t.2)
  reported (Some f) now fault is had still told = refused fault (subst (λ (o : Option RunFault). IsSomeAnd o (λ x. IsRefusal x)) is (still had))
