-- Where one goes among others.
use Rattle.std.proofs.Common.{◌≡◌, ◌≤◌, ℕ, ◌+◌, suc, Bool, true, false, List, [], ◌∷◌, length, Some, None, cond, refl, sym, ap, ◌∙◌, subst, arith}
use Rattle.std.specs.Prelude.{nat_lt, position}
use Rattle.std.specs.List.{insert}
use Rattle.std.proofs.lemmas.Bool.Decides.{nat_tests}
use Rattle.std.proofs.lemmas.List.Recursion.{is_position_or_len}
use Rattle.std.proofs.lemmas.Option.{same_Some}
use Rattle.traffic_shares.specs.declared.holders.ShareKey.{ShareKey}
use Rattle.traffic_shares.specs.Holders.{is_before, placed}

module _ (key : ShareKey) where
  first : List ShareKey → ℕ
  first [] = 0
  first (k ∷ ks) = cond (is_before key k) 0 (1 + first ks)

  one_more : (k : ShareKey) (ks : List ShareKey) → insert ks (first ks) key ≡ placed key ks → (b : Bool)
      → insert (k ∷ ks) (cond b 0 (1 + first ks)) key ≡ cond b (key ∷ k ∷ ks) (k ∷ placed key ks)
  one_more k ks h true = refl
  one_more k ks h false =
      let e : 1 + first ks ≡ suc (first ks) = omega arith in
      ap (λ (n : ℕ). insert (k ∷ ks) n key) e ∙ ap (λ (xs : List ShareKey). k ∷ xs) h

  first_placed : (ks : List ShareKey) → insert ks (first ks) key ≡ placed key ks
  unfolding first
  first_placed [] = refl
  first_placed (k ∷ ks) = one_more k ks (first_placed ks) (is_before key k)

  within_more : (n m : ℕ) → n ≤ m → (b : Bool) → cond b 0 (1 + n) ≤ suc m
  within_more n m h true = omega arith
  within_more n m h false = omega (arith, h)

  first_within : (ks : List ShareKey) → first ks ≤ length ks
  unfolding first
  first_within [] = omega arith
  first_within (k ∷ ks) = within_more (first ks) (length ks) (first_within ks) (is_before key k)

  position_is : (ks : List ShareKey) → position (λ k. is_before key k) ks ≡ cond (nat_lt (first ks) (length ks)) (Some (first ks)) None
  unfolding first
  position_is ks = ap (λ (n : ℕ). cond (nat_lt n (length ks)) (Some n) None) (sym (is_position_or_len first (λ k. is_before key k) refl (λ x xs. refl) ks))

  pub place_found : (ks : List ShareKey) (at : ℕ) → position (λ k. is_before key k) ks ≡ Some at → insert ks at key ≡ placed key ks
  place_found ks at h = go (nat_lt (first ks) (length ks)) (sym (position_is ks) ∙ h)
    where
      go : (b : Bool) → cond b (Some (first ks)) None ≡ Some at → insert ks at key ≡ placed key ks
      go true e = subst (λ (n : ℕ). insert ks n key ≡ placed key ks) (same_Some (first ks) at e) (first_placed ks)
      go false e = absurd cc

  pub place_end : (ks : List ShareKey) → position (λ k. is_before key k) ks ≡ None → insert ks (length ks) key ≡ placed key ks
  place_end ks h = go (nat_lt (first ks) (length ks)) refl (sym (position_is ks) ∙ h)
    where
      at_end : (n m : ℕ) → n ≤ m → nat_lt n m ≡ false → n ≡ m
      at_end n m low e = grind (arith, nat_tests)

      go : (b : Bool) → nat_lt (first ks) (length ks) ≡ b → cond b (Some (first ks)) None ≡ None → insert ks (length ks) key ≡ placed key ks
      go true is e = absurd cc
      go false is e = subst (λ (n : ℕ). insert ks n key ≡ placed key ks) (at_end (first ks) (length ks) (first_within ks) is) (first_placed ks)
