-- A place is taken out of a walk.
use Rattle.std.proofs.Common.{◌≡◌, ℕ, ◌<◌, inl, inr, ⊎_elim, refl, sym, ◌∙◌, subst, arith, List, [], ◌∷◌}
use Rattle.place_buckets.specs.Groups.{IsAmong, Linked}
use Rattle.place_buckets.proofs.Walks.{frame, once, next_among}

-- A walk passes the places of a list without one of them.
pub record Without (next : ℕ → ℕ) (first place : ℕ) (ps : List ℕ) : Type 0 where
  pub rest : List ℕ
  pub linked : Linked next first rest
  pub kept : (r : ℕ) → IsAmong r ps → (r ≡ place → ⊥) → IsAmong r rest
  pub from : (r : ℕ) → IsAmong r rest → IsAmong r ps
  pub gone : IsAmong place rest → ⊥

-- the place is the first one
pub from_front : (next : ℕ → ℕ) (place : ℕ) (ps : List ℕ) → Linked next place ps → 0 < place → Without next (next place) place ps
from_front next place [] h pos = absurd (omega arith)
from_front next place (p ∷ ps) h pos =
    let walk : Linked next (next place) ps = subst (λ (x : ℕ). Linked next (next x) ps) (sym h.0) h.2 in
    let whole : Linked next place (place ∷ ps) = (refl, pos, walk) in
    record {
      rest = ps;
      linked = walk;
      kept = λ r m ne. ⊎_elim (λ (e : r ≡ p). absurd (ne (e ∙ sym h.0))) (λ (n : IsAmong r ps). n) m;
      from = λ r m. inr m;
      gone = once next place ps whole;
    }

-- the place is the second one
from_second : (next then : ℕ → ℕ) (first before place : ℕ) (ps : List ℕ) → Linked next first (before ∷ ps) → next before ≡ place → 0 < place
    → then before ≡ next place → ((r : ℕ) → 0 < r → (r ≡ before → ⊥) → then r ≡ next r) → Without then first place (before ∷ ps)
from_second next then first before place [] h is pos moved same = let e : next before ≡ 0 = h.2 in absurd (omega arith)
from_second next then first before place (x ∷ ys) h is pos moved same =
    let at : place ≡ x = sym is ∙ h.2.0 in
    let tail : Linked next (next place) ys = subst (λ (y : ℕ). Linked next (next y) ys) (sym at) h.2.2 in
    let inner : Linked next place (place ∷ ys) = (refl, pos, tail) in
    let outer : Linked next before (before ∷ x ∷ ys) = (refl, h.1, h.2) in
    let kept_tail : Linked then (next place) ys = frame next then (next place) ys (λ r low m. same r low (λ (e : r ≡ before). once next before (x ∷ ys) outer (inr (subst (λ (y : ℕ). IsAmong y ys) e m)))) tail in
    record {
      rest = before ∷ ys;
      linked = (h.0, h.1, subst (λ (y : ℕ). Linked then y ys) (sym moved) kept_tail);
      kept = λ r m ne. ⊎_elim (λ (e : r ≡ before). inl e) (λ (n : IsAmong r (x ∷ ys)). ⊎_elim (λ (e : r ≡ x). absurd (ne (e ∙ sym at))) (λ (o : IsAmong r ys). inr o) n) m;
      from = λ r m. ⊎_elim (λ (e : r ≡ before). inl e) (λ (n : IsAmong r ys). inr (inr n)) m;
      gone = λ m. ⊎_elim (λ (e : place ≡ before). once next before (x ∷ ys) outer (inl (sym e ∙ at))) (λ (n : IsAmong place ys). once next place ys inner n) m;
    }

-- the place is behind another
pub from_inside : (next then : ℕ → ℕ) (first before place : ℕ) (ps : List ℕ) → Linked next first ps → IsAmong before ps → next before ≡ place → 0 < place
    → then before ≡ next place → ((r : ℕ) → 0 < r → (r ≡ before → ⊥) → then r ≡ next r) → Without then first place ps
from_inside next then first before place [] h m is pos moved same = absurd m
from_inside next then first before place (p ∷ ps) h m is pos moved same =
    ⊎_elim (λ (e : before ≡ p).
    let whole : Linked next first (before ∷ ps) = subst (λ (y : ℕ). Linked next first (y ∷ ps)) (sym e) h in
    subst (λ (y : ℕ). Without then first place (y ∷ ps)) e (from_second next then first before place ps whole is pos moved same))
    (λ (n : IsAmong before ps).
    let w = from_inside next then (next p) before place ps h.2 n is pos moved same in
    let here : Linked next p (p ∷ ps) = (refl, h.1, h.2) in
    let other : p ≡ before → ⊥ = λ (e : p ≡ before). once next p ps here (subst (λ (y : ℕ). IsAmong y ps) (sym e) n) in
    let there : IsAmong place ps = subst (λ (y : ℕ). IsAmong y ps) is (next_among next (next p) before ps h.2 n (subst (λ (y : ℕ). 0 < y) (sym is) pos)) in
    record {
      rest = p ∷ w.rest;
      linked = (h.0, h.1, subst (λ (y : ℕ). Linked then y w.rest) (sym (same p h.1 other)) w.linked);
      kept = λ r k ne. ⊎_elim (λ (e : r ≡ p). inl e) (λ (o : IsAmong r ps). inr (w.kept r o ne)) k;
      from = λ r k. ⊎_elim (λ (e : r ≡ p). inl e) (λ (o : IsAmong r w.rest). inr (w.from r o)) k;
      gone = λ k. ⊎_elim (λ (e : place ≡ p). once next p ps here (subst (λ (y : ℕ). IsAmong y ps) e there)) (λ (o : IsAmong place w.rest). w.gone o) k;
    })
    m
