-- What is read into a list, item by item.
use Rattle.std.proofs.Common.{◌≡◌, ◌<◌, ℕ, ◌+◌, Bool, true, false, List, length, get_or, set, refl, sym, ap, ◌∙◌, arith}
use Rattle.std.specs.Prelude.{◌==◌}
use Rattle.std.proofs.lemmas.Bool.{eqb-true, eqb-false}
use Rattle.std.proofs.lemmas.List.{get_or-set_same, get_or-set_other}

-- the items before a place are those of another list from a place on, and so is the next, which is put there
pub one_more : {X : Type 0} (from at : ℕ) (x : X) (xs all : List X) → at < length xs → ((d : X) → get_or all (from + at) d ≡ x)
    → ((k : ℕ) (d : X) → k < at → get_or xs k d ≡ get_or all (from + k) d) → (k : ℕ) (d : X) → k < at + 1 → get_or (set xs at x) k d ≡ get_or all (from + k) d
one_more {X} from at x xs all lt is before k d h = go (k == at) refl
  where
    go : (b : Bool) → (k == at) ≡ b → get_or (set xs at x) k d ≡ get_or all (from + k) d
    go true e =
        let s : k ≡ at = eqb-true k at e in
        ap (λ (i : ℕ). get_or (set xs at x) i d) s ∙ get_or-set_same xs at x d lt ∙ sym (is d) ∙ ap (λ (i : ℕ). get_or all (from + i) d) (sym s)
    go false e =
        let other = eqb-false k at e in
        get_or-set_other xs at k x d other ∙ before k d (omega (arith, other))

-- an item stands where a call left it, and the call left what is at that place of another list
pub left_there : {X : Type 0} (left ys all : List X) (start offset i : ℕ) (d : X) → start + offset ≡ i → get_or left offset d ≡ get_or ys i d → get_or left offset d ≡ get_or all (start + offset) d → get_or ys i d ≡ get_or all i d
left_there left ys all start offset i d place stands is = sym stands ∙ is ∙ ap (λ (j : ℕ). get_or all j d) place
