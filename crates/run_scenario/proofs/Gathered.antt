-- What was gathered of the workers are packets that were offered.
use Rattle.std.proofs.Common.{ℕ, Bool, true, false, List, [], ◌∷◌, ◌++◌, refl, sym, subst}
use Rattle.std.specs.Prelude.{if◌then◌else◌}
use Rattle.std.proofs.lemmas.Bool.{eq-eqb}
use Rattle.cluster_node.specs.declared.outcomes.Outcome.{Outcome}
use Rattle.cluster_node.specs.declared.outcomes.Outcome.TheVariants.{Installed, Placed, Forward, Dropped, Restarted, Refused}
use Rattle.thread_records.specs.Merges.{sent_by, sends_of, lives_from, lives_of, AreMerges}
use Rattle.run_scenario.proofs.Below.{IsBelow, AreBelow}

abbrev pub ListsBelow : ℕ → List (List Outcome) → Type 0
ListsBelow m [] = Unit {0}
ListsBelow m (l ∷ ls) = AreBelow m l × ListsBelow m ls

module _ (m : ℕ) where
  below_push : (os : List Outcome) (o : Outcome) → AreBelow m os → IsBelow m o → AreBelow m (os ++ o ∷ [])
  below_push [] o h k = (k, tt)
  below_push (p ∷ os) o h k = (h.0, below_push os o h.1 k)

  lives_below : (life os : List Outcome) → AreBelow m life → AreBelow m os → ListsBelow m (lives_from life os)
  lives_below life [] h k = (h, tt)
  lives_below life (Restarted l ∷ os) h k = (h, lives_below [] os tt k.1)
  lives_below life (Installed ∷ os) h k = lives_below (life ++ Installed ∷ []) os (below_push life Installed h k.0) k.1
  lives_below life (Placed w f ∷ os) h k = lives_below (life ++ Placed w f ∷ []) os (below_push life (Placed w f) h k.0) k.1
  lives_below life (Forward n w j x b v ∷ os) h k = lives_below (life ++ Forward n w j x b v ∷ []) os (below_push life (Forward n w j x b v) h k.0) k.1
  lives_below life (Dropped j c ∷ os) h k = lives_below (life ++ Dropped j c ∷ []) os (below_push life (Dropped j c) h k.0) k.1
  lives_below life (Refused r ∷ os) h k = lives_below (life ++ Refused r ∷ []) os (below_push life (Refused r) h k.0) k.1

  -- what one worker sent, among others
  sends_below : (w : ℕ) (os : List Outcome) → AreBelow m os → AreBelow m (sends_of w os)
  sends_below w [] h = tt
  sends_below w (o ∷ os) h = go (sent_by w o) (sends_below w os h.1)
    where
      go : (b : Bool) → AreBelow m (sends_of w os) → AreBelow m (if b then o ∷ sends_of w os else sends_of w os)
      go true rest = (h.0, rest)
      go false rest = rest

  behind_below : (w : ℕ) (o : Outcome) (os : List Outcome) → AreBelow m (sends_of w (o ∷ os)) → AreBelow m (sends_of w os)
  behind_below w o os h = go (sent_by w o) h
    where
      go : (b : Bool) → AreBelow m (if b then o ∷ sends_of w os else sends_of w os) → AreBelow m (sends_of w os)
      go true k = k.1
      go false k = k

  first_below : (o : Outcome) (os : List Outcome) → ((w : ℕ) → AreBelow m (sends_of w (o ∷ os))) → IsBelow m o
  first_below Installed os h = tt
  first_below (Placed w f) os h = tt
  first_below (Forward n w k x b v) os h = (subst (λ (c : Bool). AreBelow m (if c then Forward n w k x b v ∷ sends_of w os else sends_of w os)) (eq-eqb w w refl) (h w)).0
  first_below (Dropped k c) os h = tt
  first_below (Restarted l) os h = tt
  first_below (Refused r) os h = tt

  all_below : (os : List Outcome) → ((w : ℕ) → AreBelow m (sends_of w os)) → AreBelow m os
  all_below [] h = tt
  all_below (o ∷ os) h = (first_below o os h, all_below os (λ w. behind_below w o os (h w)))

  merged_below : (sent lives : List (List Outcome)) → AreMerges sent lives → ListsBelow m lives → ListsBelow m sent
  merged_below [] lives h k = tt
  merged_below (s ∷ ss) [] h k = absurd h
  merged_below (s ∷ ss) (l ∷ ls) h k = (all_below s (λ w. subst (λ (os : List Outcome). AreBelow m os) (sym (h.0.each w)) (sends_below w l k.0)), merged_below ss ls h.1 k.1)

  -- what was gathered of lives in which nothing else was sent
  pub gathered_below : (sent : List (List Outcome)) (os : List Outcome) → AreMerges sent (lives_of os) → AreBelow m os → ListsBelow m sent
  gathered_below sent os h k = merged_below sent (lives_of os) h (lives_below [] os tt k)
