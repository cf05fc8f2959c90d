-- Each change has one cause.
use Rattle.std.proofs.Common.{◌≡◌, ℕ, ◌+◌, List, [], ◌∷◌, length, Option, refl, cond, arith}
use Rattle.std.proofs.lemmas.List.Sums.{sum_by-cons}
use Rattle.std.proofs.lemmas.List.{length-map}
use Rattle.run_report.specs.Causes.{Lookups}
use Rattle.run_report.specs.Splits.{splits_of}
use Rattle.connection_changes.specs.declared.causes.Change.{Change}
use Rattle.connection_changes.specs.declared.causes.ChangeCause.{ChangeCause}
use Rattle.connection_changes.specs.declared.causes.ChangeCause.TheVariants.{Down, Drained, Node, Restart, Worker, Idle, Evicted}
use Rattle.connection_changes.specs.Changes.{change_in, changes_of, cause_in, same_cause, changes_by}
use Rattle.connection_changes.specs.Laws.{CausesAddUp}

bit : ChangeCause → ChangeCause → ℕ
bit a b = cond (same_cause a b) 1 0

one_cause : (c : ChangeCause) → bit Down c + bit Drained c + bit Node c + bit Restart c + bit Worker c + bit Idle c + bit Evicted c ≡ 1
unfolding bit
one_cause Down = refl
one_cause Drained = refl
one_cause Node = refl
one_cause Restart = refl
one_cause Worker = refl
one_cause Idle = refl
one_cause Evicted = refl

module _ (lookups : Lookups) (idle : Option ℕ) where
  more : (cause : ChangeCause) (c : Change) (cs : List Change) → changes_by lookups idle (c ∷ cs) cause ≡ bit cause (cause_in lookups idle c) + changes_by lookups idle cs cause
  unfolding bit
  more cause c cs = sum_by-cons (λ d. cond (same_cause cause (cause_in lookups idle d)) 1 0) c cs

  pub all_causes : (cs : List Change) → changes_by lookups idle cs Down + changes_by lookups idle cs Drained + changes_by lookups idle cs Node + changes_by lookups idle cs Restart + changes_by lookups idle cs Worker + changes_by lookups idle cs Idle + changes_by lookups idle cs Evicted ≡ length cs
  all_causes [] = refl
  all_causes (c ∷ cs) =
      let h : changes_by lookups idle cs Down + changes_by lookups idle cs Drained + changes_by lookups idle cs Node + changes_by lookups idle cs Restart + changes_by lookups idle cs Worker + changes_by lookups idle cs Idle + changes_by lookups idle cs Evicted ≡ length cs = all_causes cs in
      let e1 = more Down c cs in
      let e2 = more Drained c cs in
      let e3 = more Node c cs in
      let e4 = more Restart c cs in
      let e5 = more Worker c cs in
      let e6 = more Idle c cs in
      let e7 = more Evicted c cs in
      let o = one_cause (cause_in lookups idle c) in
      omega (arith, h, e1, e2, e3, e4, e5, e6, e7, o)

pub causes_add : CausesAddUp
causes_add lookups idle past = (all_causes lookups idle (changes_of past), length-map (splits_of past) (λ p. change_in past p))
