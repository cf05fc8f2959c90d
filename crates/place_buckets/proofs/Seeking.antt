-- The loops that walk along a chain.
use Rattle.std.proofs.Common.{◌≡◌, ℕ, ◌+◌, ◌<◌, ◌≤◌, ◌⊎◌, inl, inr, ⊎_elim, refl, sym, ◌∙◌, subst, arith, List, [], ◌∷◌}
use Rattle.place_buckets.specs.Groups.{IsAmong, Linked, Inside, IsChain, steps}
use Rattle.place_buckets.proofs.Walks.{falls, next_among, same_walk}

-- What is left of a chain that is searched: a place that is meant was passed and isn't sought, or is left.
pub record Left (next : ℕ → ℕ) (n : ℕ) (IsMeant IsOther : ℕ → Type 0) (at : ℕ) : Type 0 where
  pub rest : List ℕ
  pub linked : Linked next at rest
  pub low : (p : ℕ) → IsAmong p rest → p ≤ n
  pub passed : (p : ℕ) → IsMeant p → IsOther p ⊎ IsAmong p rest

pub left_first : (next hash : ℕ → ℕ) (n sought : ℕ) (IsOther : ℕ → Type 0) (first : ℕ) → IsChain next n first → Left next n (λ p. (hash p ≡ sought) × Inside next n p first) IsOther first
left_first next hash n sought IsOther first c = record {
  rest = c.places;
  linked = c.linked;
  low = c.low;
  passed = λ p m. inr (subst (λ (ps : List ℕ). IsAmong p ps) (same_walk next first m.1.chain.places c.places m.1.chain.linked c.linked) m.1.there);
}

-- a place that is passed
pub record Passed (next : ℕ → ℕ) (n : ℕ) (IsMeant IsOther : ℕ → Type 0) (at : ℕ) : Type 0 where
  pub low : at ≤ n
  pub falls : steps (n + 1) next (next at) < steps (n + 1) next at
  pub more : (IsMeant at → IsOther at) → Left next n IsMeant IsOther (next at)

pub left_more : (next : ℕ → ℕ) (n : ℕ) (IsMeant IsOther : ℕ → Type 0) (at : ℕ) → Left next n IsMeant IsOther at → (at ≡ 0 → ⊥) → Passed next n IsMeant IsOther at
left_more next n IsMeant IsOther at l some = go l.rest l.linked l.low l.passed
  where
    go : (ps : List ℕ) → Linked next at ps → ((p : ℕ) → IsAmong p ps → p ≤ n) → ((p : ℕ) → IsMeant p → IsOther p ⊎ IsAmong p ps) → Passed next n IsMeant IsOther at
    go [] h low passed = absurd (some h)
    go (p ∷ ps) h low passed = record {
      low = subst (λ (y : ℕ). y ≤ n) (sym h.0) (low p (inl refl));
      falls = falls next n at p ps h low;
      more = λ other. record {
        rest = ps;
        linked = subst (λ (y : ℕ). Linked next (next y) ps) (sym h.0) h.2;
        low = λ q m. low q (inr m);
        passed = λ q is. ⊎_elim (λ (o : IsOther q). inl o)
            (λ (m : IsAmong q (p ∷ ps)). ⊎_elim
            (λ (e : q ≡ p). let same : q ≡ at = e ∙ sym h.0 in inl (subst IsOther (sym same) (other (subst IsMeant same is))))
            (λ (k : IsAmong q ps). inr k)
            m)
            (passed q is);
      };
    }

pub left_none : (next : ℕ → ℕ) (n : ℕ) (IsMeant IsOther : ℕ → Type 0) (at : ℕ) → Left next n IsMeant IsOther at → at ≡ 0 → (p : ℕ) → IsMeant p → IsOther p
left_none next n IsMeant IsOther at l none = go l.rest l.linked l.passed
  where
    go : (ps : List ℕ) → Linked next at ps → ((p : ℕ) → IsMeant p → IsOther p ⊎ IsAmong p ps) → (p : ℕ) → IsMeant p → IsOther p
    go [] h passed p is = ⊎_elim (λ (o : IsOther p). o) (λ (m : IsAmong p []). absurd m) (passed p is)
    go (q ∷ qs) h passed p is = absurd (omega (arith, h.0, h.1))

-- The walk to a place has come to one before it.
pub record Nearing (next : ℕ → ℕ) (n place first at : ℕ) : Type 0 where
  pub inside : Inside next n at first
  pub rest : List ℕ
  pub linked : Linked next at (at ∷ rest)
  pub low : (p : ℕ) → IsAmong p (at ∷ rest) → p ≤ n
  pub there : IsAmong place rest

pub nearing_first : (next : ℕ → ℕ) (n place first : ℕ) → Inside next n place first → (first ≡ place → ⊥) → Nearing next n place first first
nearing_first next n place first i other = go i.chain.places i.chain.linked i.chain.low i.there
  where
    go : (ps : List ℕ) → Linked next first ps → ((p : ℕ) → IsAmong p ps → p ≤ n) → IsAmong place ps → Nearing next n place first first
    go [] h low m = absurd m
    go (p ∷ ps) h low m =
        let whole : Linked next first (first ∷ ps) = (refl, subst (λ (y : ℕ). 0 < y) (sym h.0) h.1, subst (λ (y : ℕ). Linked next (next y) ps) (sym h.0) h.2) in
        record {
          inside = record { chain = record { places = p ∷ ps; linked = h; low = low }; there = inl h.0 };
          rest = ps;
          linked = whole;
          low = subst (λ (y : ℕ). (q : ℕ) → IsAmong q (y ∷ ps) → q ≤ n) (sym h.0) low;
          there = ⊎_elim (λ (e : place ≡ p). absurd (other (h.0 ∙ sym e))) (λ (k : IsAmong place ps). k) m;
        }

pub nearing_above : (next : ℕ → ℕ) (n place first at : ℕ) → Nearing next n place first at → 0 < at
nearing_above next n place first at l = l.linked.1

pub nearing_low : (next : ℕ → ℕ) (n place first at : ℕ) → Nearing next n place first at → at ≤ n
nearing_low next n place first at l = l.low at (inl refl)

pub nearing_falls : (next : ℕ → ℕ) (n place first at : ℕ) → Nearing next n place first at → steps (n + 1) next (next at) < steps (n + 1) next at
nearing_falls next n place first at l = falls next n at at l.rest l.linked l.low

pub nearing_more : (next : ℕ → ℕ) (n place first at : ℕ) → Nearing next n place first at → (next at ≡ place → ⊥) → Nearing next n place first (next at)
nearing_more next n place first at l other = go l.rest l.linked l.low l.there
  where
    go : (ps : List ℕ) → Linked next at (at ∷ ps) → ((p : ℕ) → IsAmong p (at ∷ ps) → p ≤ n) → IsAmong place ps → Nearing next n place first (next at)
    go [] h low m = absurd m
    go (p ∷ ps) h low m =
        let is : next at ≡ p = h.2.0 in
        let pos : 0 < next at = subst (λ (y : ℕ). 0 < y) (sym is) h.2.1 in
        let i = l.inside in
        let inside : Inside next n (next at) first = record { chain = i.chain; there = next_among next first at i.chain.places i.chain.linked i.there pos } in
        record {
          inside = inside;
          rest = ps;
          linked = (refl, pos, subst (λ (y : ℕ). Linked next (next y) ps) (sym is) h.2.2);
          low = λ q k. low q (inr (subst (λ (y : ℕ). IsAmong q (y ∷ ps)) is k));
          there = ⊎_elim (λ (e : place ≡ p). absurd (other (is ∙ sym e))) (λ (k : IsAmong place ps). k) m;
        }
