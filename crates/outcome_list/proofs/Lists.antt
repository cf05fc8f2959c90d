-- Entries open as the same while the lists that they name grow.
use Rattle.std.proofs.Common.{◌≡◌, ℕ, List, [], ◌∷◌, ◌++◌, map, Option, Some, None, true, refl, sym, ap, ◌∙◌}
use Rattle.std.specs.Prelude.{unwrap_or, is_some}
use Rattle.std.proofs.lemmas.List.{map_push}
use Rattle.std.proofs.lemmas.List.Elements.{All-head, All-tail}
use Rattle.pool_versions.specs.declared.backend.Backend.{Backend}
use Rattle.cluster_node.specs.declared.outcomes.Outcome.{Outcome}
use Rattle.cluster_node.specs.declared.outcomes.Outcome.TheVariants.{Installed}
use Rattle.outcome_list.specs.declared.kept.Send.{Send}
use Rattle.outcome_list.specs.declared.kept.Kept.{Kept}
use Rattle.outcome_list.specs.Meant.{told, opened, AreThere, Tells}

module _ (bs bs' : List Backend) (ss ss' : List Send) (ls ls' : List ℕ) (t : Tells bs ss ls bs' ss' ls') where
  -- an entry that is there opens as the same
  same_opened : (k : Kept) → is_some (told bs ss ls k) ≡ true → opened bs' ss' ls' k ≡ opened bs ss ls k
  same_opened k h = go (told bs ss ls k) refl h
    where
      go : (o : Option Outcome) → told bs ss ls k ≡ o → is_some o ≡ true → opened bs' ss' ls' k ≡ opened bs ss ls k
      go None is h = absurd cc
      go (Some o) is h = ap (λ (x : Option Outcome). unwrap_or x Installed) (t k o is ∙ sym is)

  -- so do all of a list
  pub same_list : (ks : List Kept) → AreThere bs ss ls ks → map (λ k. opened bs' ss' ls' k) ks ≡ map (λ k. opened bs ss ls k) ks
  same_list [] h = refl
  same_list (k ∷ ks) h =
      ap (λ (o : Outcome). o ∷ map (λ y. opened bs' ss' ls' y) ks) (same_opened k (All-head (λ y. is_some (told bs ss ls y) ≡ true) k ks h))
      ∙ ap (λ (os : List Outcome). opened bs ss ls k ∷ os) (same_list ks (All-tail (λ y. is_some (told bs ss ls y) ≡ true) k ks h))

  -- and one entry more opens as one outcome more
  pub list_more : (ks : List Kept) (k : Kept) (o : Outcome) → AreThere bs ss ls ks → told bs' ss' ls' k ≡ Some o
      → map (λ y. opened bs' ss' ls' y) (ks ++ k ∷ []) ≡ map (λ y. opened bs ss ls y) ks ++ o ∷ []
  list_more ks k o h is =
      map_push (λ y. opened bs' ss' ls' y) ks k
      ∙ ap (λ (os : List Outcome). os ++ opened bs' ss' ls' k ∷ []) (same_list ks h)
      ∙ ap (λ (x : Option Outcome). map (λ y. opened bs ss ls y) ks ++ unwrap_or x Installed ∷ []) is
