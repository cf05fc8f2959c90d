-- Entries open as the same while the lists that they name grow.
use Rattle.std.proofs.Common.{◌≡◌, List, [], ◌∷◌, ◌++◌, map, reverse, Option, Some, None, true, refl, sym, ap, ◌∙◌}
use Rattle.std.specs.Prelude.{unwrap_or, is_some}
use Rattle.std.proofs.lemmas.List.{map_push, reverse-append}
use Rattle.std.proofs.lemmas.List.Elements.{All-head, All-tail, All-push, All-weaker}
use Rattle.pool_versions.specs.declared.backend.Backend.{Backend}
use Rattle.forwarder.specs.declared.Choice.{Choice}
use Rattle.forwarder.specs.declared.Choice.TheVariants.{NoBackend}
use Rattle.handled_list.specs.declared.handled.Handled.{Handled}
use Rattle.handled_list.specs.declared.kept.Kept.{Kept}
use Rattle.handled_list.specs.Meant.{told, unstored_of, opened, meant, AreThere, Tells}

module _ (bs bs' ss ss' : List Backend) (t : Tells bs ss bs' ss') where
  -- an entry that is there opens as the same
  same_opened : (k : Kept) → is_some (told bs ss k.choice) ≡ true → opened bs' ss' k ≡ opened bs ss k
  same_opened k h = go (told bs ss k.choice) refl h
    where
      go : (o : Option Choice) → told bs ss k.choice ≡ o → is_some o ≡ true → opened bs' ss' k ≡ opened bs ss k
      go None is h = absurd cc
      go (Some c) is h = ap (λ (x : Option Choice). let h : Handled = record { item = k.item; version = k.version; choice = unwrap_or x NoBackend; unstored = unstored_of k.choice } in h) (t k.choice c is ∙ sym is)

  -- so do all of a list
  pub same_list : (ks : List Kept) → AreThere bs ss ks → meant bs' ss' ks ≡ meant bs ss ks
  same_list [] h = refl
  same_list (k ∷ ks) h =
      ap (λ (o : Handled). o ∷ meant bs' ss' ks) (same_opened k (All-head (λ y. is_some (told bs ss y.choice) ≡ true) k ks h))
      ∙ ap (λ (os : List Handled). opened bs ss k ∷ os) (same_list ks (All-tail (λ y. is_some (told bs ss y.choice) ≡ true) k ks h))

  -- and one entry more opens as one packet more
  pub list_more : (ks : List Kept) (k : Kept) (h : Handled) → AreThere bs ss ks → opened bs' ss' k ≡ h → meant bs' ss' (ks ++ k ∷ []) ≡ meant bs ss ks ++ h ∷ []
  list_more ks k h all is =
      map_push (λ y. opened bs' ss' y) ks k
      ∙ ap (λ (os : List Handled). os ++ opened bs' ss' k ∷ []) (same_list ks all)
      ∙ ap (λ (o : Handled). meant bs ss ks ++ o ∷ []) is

  -- whose backend is there too
  pub there_more : (ks : List Kept) (k : Kept) (c : Choice) → AreThere bs ss ks → told bs' ss' k.choice ≡ Some c → AreThere bs' ss' (ks ++ k ∷ [])
  there_more ks k c all is =
      All-push (λ y. is_some (told bs' ss' y.choice) ≡ true) ks k
      (All-weaker (λ y. is_some (told bs ss y.choice) ≡ true) (λ y. is_some (told bs' ss' y.choice) ≡ true) (λ y h. still y h) ks all)
      (ap (λ (x : Option Choice). is_some x) is)
    where
      still : (y : Kept) → is_some (told bs ss y.choice) ≡ true → is_some (told bs' ss' y.choice) ≡ true
      still y h = go (told bs ss y.choice) refl h
        where
          go : (o : Option Choice) → told bs ss y.choice ≡ o → is_some o ≡ true → is_some (told bs' ss' y.choice) ≡ true
          go None is h = absurd cc
          go (Some c) is h = ap (λ (x : Option Choice). is_some x) (t y.choice c is)

-- a list that is turned round opens as the list turned round
pub map_reverse : {A B : Type 0} (f : A → B) (xs : List A) → map f (reverse xs) ≡ reverse (map f xs)
map_reverse f [] = refl
map_reverse {A} {B} f (x ∷ xs) =
    ap (λ (l : List A). map f l) (reverse-append (x ∷ []) xs)
    ∙ map_push f (reverse xs) x
    ∙ ap (λ (l : List B). l ++ f x ∷ []) (map_reverse f xs)
    ∙ sym (reverse-append (f x ∷ []) (map f xs))
