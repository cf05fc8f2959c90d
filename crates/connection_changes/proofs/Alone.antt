-- Where one worker without restarts sent all, no connection moved but for want of an entry.
use Rattle.std.proofs.Common.{◌≡◌, ℕ, Bool, true, List, [], ◌∷◌, length, Option, Some, None, refl, sym, ap, ◌∙◌, subst, ⊎_elim}
use Rattle.std.specs.Prelude.{◌==◌, if◌then◌else◌}
use Rattle.std.specs.List.{All, Contains}
use Rattle.std.proofs.lemmas.Bool.{cases_eq, cond-true, cond-false, eq-eqb, ne_eqb}
use Rattle.std.proofs.lemmas.List.Elements.{All-head, All-tail, All-weaker, All-map, All-contains, All-contains_itself}
use Rattle.cluster_node.specs.declared.events.Event.{Event}
use Rattle.cluster_node.specs.declared.events.Event.TheVariants.{Install, Arrive, Serve, Restart}
use Rattle.cluster_node.specs.declared.events.LogEntry.{LogEntry}
use Rattle.cluster_node.specs.declared.outcomes.Outcome.{Outcome}
use Rattle.cluster_node.specs.declared.outcomes.Outcome.TheVariants.{Installed, Placed, Forward, Dropped, Restarted, Refused}
use Rattle.run_report.specs.declared.cause.SplitCause.{SplitCause}
use Rattle.run_report.specs.declared.cause.SplitCause.TheVariants as splits
use Rattle.run_report.specs.declared.sending.Sending.{Sending}
use Rattle.run_report.specs.declared.sending.Split.{Split}
use Rattle.run_report.specs.Causes.{Lookups, is_still_kept, has_drained, cause_of}
use Rattle.run_report.specs.Splits.{sent_by, sent_at, splits_of}
use Rattle.run_report.specs.Pairs.{IsSplit}
use Rattle.run_report.proofs.Pairs.{at_head, at_rest, each_split}
use Rattle.connection_changes.specs.declared.causes.ChangeCause.TheVariants as causes
use Rattle.connection_changes.specs.declared.sites.Site.{Site}
use Rattle.connection_changes.specs.Sites.{begun_by, life_with, life_of, site_in, site_at}
use Rattle.connection_changes.specs.Changes.{change_in, changes_of, cause_between, cause_in}
use Rattle.connection_changes.specs.Laws.{IsOutcomeBy, IsBy, MovesAreEvictions}

module _ (n w : ℕ) where
  none_begun : (e : Event) (o : Outcome) → IsOutcomeBy n w o → begun_by e o ≡ None
  none_begun (Install m v) o h = refl
  none_begun (Arrive m k marks) o h = refl
  none_begun (Serve m u v r) o h = refl
  none_begun (Restart m) Installed h = refl
  none_begun (Restart m) (Placed u f) h = refl
  none_begun (Restart m) (Forward i u k x b v) h = refl
  none_begun (Restart m) (Dropped k c) h = refl
  none_begun (Restart m) (Restarted l) h = absurd h
  none_begun (Restart m) (Refused r) h = refl

  first_life : (past : List LogEntry) → All (IsBy n w) past → (m : ℕ) → life_of past m ≡ 0
  first_life [] all m = refl
  first_life (s ∷ past) all m =
      ap (λ (o : Option ℕ). life_with o m (life_of past m)) (none_begun s.event s.outcome (All-head (IsBy n w) s past all))
      ∙ first_life past (All-tail (IsBy n w) s past all) m

  pub record IsHere (a : Site) : Type 0 where
    pub node : a.node ≡ n
    pub worker : a.worker ≡ w
    pub life : a.life ≡ 0

  sent_here : (all : List LogEntry) → ((m : ℕ) → life_of all m ≡ 0) → (k : ℕ) (e : Event) (o : Outcome) (q : Sending) → IsOutcomeBy n w o → sent_by k e o ≡ Some q → IsHere (site_in all o)
  sent_here all first k e Installed q h s = absurd cc
  sent_here all first k e (Placed u f) q h s = absurd cc
  sent_here all first k e (Forward m u p x b v) q h s = record { node = h.0; worker = h.1; life = first m }
  sent_here all first k e (Dropped p c) q h s = absurd cc
  sent_here all first k e (Restarted l) q h s = absurd cc
  sent_here all first k e (Refused r) q h s = absurd cc

  all_here : (past : List LogEntry) → All (IsBy n w) past → (k : ℕ) (q : Sending) → sent_at past k ≡ Some q → IsHere (site_at past k)
  all_here [] all k q h = absurd cc
  all_here (s ∷ past) all k q h = ⊎_elim
      (λ (e : k ≡ length past).
      subst (λ (a : Site). IsHere a) (sym (cond-true (k == length past) (site_in (s ∷ past) s.outcome) (site_at past k) (eq-eqb k (length past) e)))
      (sent_here (s ∷ past) (first_life (s ∷ past) all) (length past) s.event s.outcome q (All-head (IsBy n w) s past all) (sym (at_head s past k e) ∙ h)))
      (λ (ne : k ≡ length past → ⊥).
      subst (λ (a : Site). IsHere a) (sym (cond-false (k == length past) (site_in (s ∷ past) s.outcome) (site_at past k) (ne_eqb k (length past) ne)))
      (all_here past (All-tail (IsBy n w) s past all) k q (sym (at_rest s past k ne) ∙ h)))
      (cases_eq k (length past))

  pub evicted : (a b : Site) → IsHere a → IsHere b → (c : SplitCause) → c ≡ splits.Moved → cause_between c None a b ≡ causes.Evicted
  evicted a b h i c is =
      ap (λ (d : SplitCause). cause_between d None a b) is
      ∙ cond-true (a.node == b.node) _ _ (eq-eqb a.node b.node (h.node ∙ sym i.node))
      ∙ cond-true (a.life == b.life) _ _ (eq-eqb a.life b.life (h.life ∙ sym i.life))
      ∙ cond-true (a.worker == b.worker) _ _ (eq-eqb a.worker b.worker (h.worker ∙ sym i.worker))

  pub alone : (lookups : Lookups) (past : List LogEntry) → All (IsBy n w) past → All (λ p. is_still_kept lookups p ≡ true) (splits_of past) → All (λ c. cause_in lookups None c ≡ causes.Evicted) (changes_of past)
  alone lookups past all kept = All-map (λ c. cause_in lookups None c ≡ causes.Evicted) (λ p. change_in past p) (splits_of past)
      (All-weaker (Contains (splits_of past)) (λ p. cause_in lookups None (change_in past p) ≡ causes.Evicted) each (splits_of past) (All-contains_itself (splits_of past)))
    where
      each : (p : Split) → Contains (splits_of past) p → cause_in lookups None (change_in past p) ≡ causes.Evicted
      each p there =
          let is : IsSplit past p = All-contains (IsSplit past) (splits_of past) p (each_split past) there in
          let still : is_still_kept lookups p ≡ true = All-contains (λ q. is_still_kept lookups q ≡ true) (splits_of past) p kept there in
          evicted (site_at past p.first.number) (site_at past p.later.number) (all_here past all p.first.number p.first is.first) (all_here past all p.later.number p.later is.later) (cause_of lookups p)
          (ap (λ (t : Bool). if t then splits.Moved else (if has_drained lookups p then splits.Drained else splits.Down)) still)

pub moves_are : MovesAreEvictions
moves_are lookups n w past all kept = alone n w lookups past all kept
