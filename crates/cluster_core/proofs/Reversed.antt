-- A run's history, the oldest event in front, against its record, the newest in front.
use Rattle.std.proofs.Common.{◌≡◌, ◌+◌, List, [], ◌∷◌, ◌++◌, reverse, zero, suc, refl, sym, ap, subst, arith}
use Rattle.std.proofs.lemmas.List.{reverse-append}
use Rattle.cluster_node.specs.declared.events.LogEntry.{LogEntry}
use Rattle.cluster_node.specs.declared.outcomes.Outcome.{Outcome}
use Rattle.cluster_node.specs.Rules.{Rules}
use Rattle.cluster_node.specs.Records.{Judged}
use Rattle.cluster_core.specs.Runs.{verdict}
use Rattle.cluster_core.specs.Totals.{came, went, came_of, went_of, came_all, went_all}
use Rattle.cluster_core.specs.Explain.{send_of, PickedSend, PickedSends}
use Rattle.cluster_core.specs.Histories.{IsSteady, outcomes_of}
use Rattle.cluster_core.proofs.Sends.{picked_send, verdict_pick}

came_both : (a b : List LogEntry) → came_of (a ++ b) ≡ came_of a + came_of b
came_both [] b = omega arith
came_both (s ∷ a) b = let h : came_of (a ++ b) ≡ came_of a + came_of b = came_both a b in omega arith

went_both : (a b : List LogEntry) → went_of (a ++ b) ≡ went_of a + went_of b
went_both [] b = omega arith
went_both (s ∷ a) b = let h : went_of (a ++ b) ≡ went_of a + went_of b = went_both a b in omega arith

pub came_told : (history : List LogEntry) → came_all (outcomes_of history) ≡ came_of (reverse history)
came_told [] = refl
came_told (s ∷ h) =
    let i : came_all (outcomes_of h) ≡ came_of (reverse h) = came_told h in
    let r : came_of (reverse (s ∷ h)) ≡ came_of (reverse h ++ s ∷ []) = ap came_of (reverse-append (s ∷ []) h) in
    let b : came_of (reverse h ++ s ∷ []) ≡ came_of (reverse h) + came_of (s ∷ []) = came_both (reverse h) (s ∷ []) in
    let g : came s.outcome + came_all (outcomes_of h) ≡ came_of (reverse (s ∷ h)) = omega arith in g

pub went_told : (history : List LogEntry) → went_all (outcomes_of history) ≡ went_of (reverse history)
went_told [] = refl
went_told (s ∷ h) =
    let i : went_all (outcomes_of h) ≡ went_of (reverse h) = went_told h in
    let r : went_of (reverse (s ∷ h)) ≡ went_of (reverse h ++ s ∷ []) = ap went_of (reverse-append (s ∷ []) h) in
    let b : went_of (reverse h ++ s ∷ []) ≡ went_of (reverse h) + went_of (s ∷ []) = went_both (reverse h) (s ∷ []) in
    let g : went s.outcome + went_all (outcomes_of h) ≡ went_of (reverse (s ∷ h)) = omega arith in g

module _ (rules : Rules) where
  abbrev pub Picked : List LogEntry → Type 0
  Picked [] = Unit {0}
  Picked (s ∷ past) = PickedSend rules (send_of s.outcome) × Picked past

  judged_picked : IsSteady rules → (past : List LogEntry) → Judged (verdict rules) past → Picked past
  judged_picked steady [] j = tt
  judged_picked steady (s ∷ past) j = (subst (λ (o : Outcome). PickedSend rules (send_of o)) (sym j.0) (picked_send rules steady (verdict rules past s.event s.packet) (verdict_pick rules past s.event s.packet)), judged_picked steady past j.1)

  front : (a b : List LogEntry) → Picked (a ++ b) → Picked a
  front [] b h = tt
  front (s ∷ a) b h = (h.0, front a b h.1)

  back : (a b : List LogEntry) → Picked (a ++ b) → Picked b
  back [] b h = h
  back (s ∷ a) b h = back a b h.1

  turned : (history : List LogEntry) → Picked (reverse history) → Picked history
  turned [] h = tt
  turned (s ∷ rest) h =
      let k : Picked (reverse rest ++ s ∷ []) = subst Picked (reverse-append (s ∷ []) rest) h in
      ((back (reverse rest) (s ∷ []) k).0, turned rest (front (reverse rest) (s ∷ []) k))

  each_picked : (history : List LogEntry) → Picked history → PickedSends rules (outcomes_of history)
  each_picked [] h k o e = absurd (cc)
  each_picked (s ∷ rest) h zero o e = let d : s.outcome ≡ o = cc in subst (λ (q : Outcome). PickedSend rules (send_of q)) d h.0
  each_picked (s ∷ rest) h (suc k) o e = each_picked rest h.1 k o e

  pub sends_told : (history : List LogEntry) → IsSteady rules → Judged (verdict rules) (reverse history) → PickedSends rules (outcomes_of history)
  sends_told history steady j = each_picked history (turned history (judged_picked steady (reverse history) j))
