-- A chain of links, with a place taken out and a place put in front.
use Rattle.std.proofs.Common.{◌≡◌, ℕ, ◌<◌, Bool, true, false, cond, not, List, [], ◌∷◌, length, get_or, set, refl, sym, ap, ◌∙◌, subst}
use Rattle.std.specs.Prelude.{eqb}
use Rattle.std.specs.List.{AllByRecursion, Contains, IsDistinct}
use Rattle.std.proofs.lemmas.Bool.{eqb-true, eqb-false}
use Rattle.std.proofs.lemmas.List.{get_or-set_same, get_or-set_other}
use Rattle.std.proofs.lemmas.Map.Keys.{IsDistinct-head, IsDistinct-tail}
use Rattle.std.proofs.lemmas.Map.Made.{Contains-tail}
use Rattle.recent_order.specs.Places.{without}
use Rattle.recent_order.specs.Links.{Chained, places_after}
use Rattle.recent_order.proofs.Others.{Avoids, apart_turned, none_there, without_none}

-- the list after a write
pub record Written (i v : ℕ) (xs ys : List ℕ) : Type 0 where
  pub here : get_or ys i 0 ≡ v
  pub others : (q : ℕ) → (q ≡ i → ⊥) → get_or ys q 0 ≡ get_or xs q 0

pub written : (i v : ℕ) (xs : List ℕ) → i < length xs → Written i v xs (set xs i v)
written i v xs low = record {
  here = get_or-set_same xs i v 0 low;
  others = λ q ne. get_or-set_other xs i q v 0 ne;
}

not_it : (a b : ℕ) → eqb a b ≡ false → b ≡ a → ⊥
not_it a b e k = eqb-false a b e (sym k)

-- links that are written elsewhere leave a chain as it is
pub chain_kept : (o n o₂ n₂ : List ℕ) (i v j w a b : ℕ) (xs : List ℕ) → Written i v o o₂ → Written j w n n₂ → Avoids i (a ∷ xs) → Avoids j xs → eqb j b ≡ false → Chained o n a xs b → Chained o₂ n₂ a xs b
unfolding Chained
chain_kept o n o₂ n₂ i v j w a b [] wo wn ia ix jb h = (wo.others a (not_it i a ia.0) ∙ h.0, wn.others b (not_it j b jb) ∙ h.1)
chain_kept o n o₂ n₂ i v j w a b (x ∷ xs) wo wn ia ix jb h =
    (wo.others a (not_it i a ia.0) ∙ h.0, wn.others x (not_it j x ix.0) ∙ h.1, chain_kept o n o₂ n₂ i v j w x b xs wo wn ia.1 ix.1 jb h.2)

-- links that read alike chain alike
pub chain_same : (o n o₂ n₂ : List ℕ) (a b : ℕ) (xs : List ℕ) → ((q : ℕ) → get_or o₂ q 0 ≡ get_or o q 0) → ((q : ℕ) → get_or n₂ q 0 ≡ get_or n q 0) → Chained o n a xs b → Chained o₂ n₂ a xs b
unfolding Chained
chain_same o n o₂ n₂ a b [] so sn h = (so a ∙ h.0, sn b ∙ h.1)
chain_same o n o₂ n₂ a b (x ∷ xs) so sn h = (so a ∙ h.0, sn x ∙ h.1, chain_same o n o₂ n₂ x b xs so sn h.2)

-- what holds of all places of a chain and of its end holds of the one that is older than one of them
pub older_has : (P : ℕ → Type 0) (o n : List ℕ) (p a b : ℕ) (xs : List ℕ) → P b → AllByRecursion P xs → Contains xs p → Chained o n a xs b → P (get_or o p 0)
unfolding Chained
older_has P o n p a b [] pb all there h = absurd (none_there p there)
older_has P o n p a b (x ∷ xs) pb all there h = go (eqb x p) refl (λ k. older_has P o n p x b xs pb all.1 k h.2)
  where
    next : (ys : List ℕ) → AllByRecursion P ys → Chained o n x ys b → P (get_or o x 0)
    next [] k c = subst P (sym c.0) pb
    next (y ∷ ys) k c = subst P (sym c.0) k.0

    go : (t : Bool) → eqb x p ≡ t → (Contains xs p → P (get_or o p 0)) → P (get_or o p 0)
    go true e k = subst (λ (q : ℕ). P (get_or o q 0)) (eqb-true x p e) (next xs all.1 h.2)
    go false e k = k (Contains-tail x xs p (eqb-false x p e) there)

-- and of its beginning, of the newer one
pub newer_has : (P : ℕ → Type 0) (o n : List ℕ) (p a b : ℕ) (xs : List ℕ) → P a → AllByRecursion P xs → Contains xs p → Chained o n a xs b → P (get_or n p 0)
unfolding Chained
newer_has P o n p a b [] pa all there h = absurd (none_there p there)
newer_has P o n p a b (x ∷ xs) pa all there h = go (eqb x p) refl (λ k. newer_has P o n p x b xs all.0 all.1 k h.2)
  where
    go : (t : Bool) → eqb x p ≡ t → (Contains xs p → P (get_or n p 0)) → P (get_or n p 0)
    go true e k = subst (λ (q : ℕ). P (get_or n q 0)) (eqb-true x p e) (subst P (sym h.1) pa)
    go false e k = k (Contains-tail x xs p (eqb-false x p e) there)

-- the first place of a chain is taken out
first_out : (o n o₂ n₂ : List ℕ) (p v a b : ℕ) (xs : List ℕ) → Written a v o o₂ → Written v a n n₂ → get_or o p 0 ≡ v → Avoids a xs → IsDistinct eqb xs → Avoids b xs → Chained o n p xs b → Chained o₂ n₂ a xs b
unfolding Chained
first_out o n o₂ n₂ p v a b [] wo wn ev av d bv h =
    let e : v ≡ b = sym ev ∙ h.0 in
    (wo.here ∙ e, ap (λ (q : ℕ). get_or n₂ q 0) (sym e) ∙ wn.here)
first_out o n o₂ n₂ p v a b (y ∷ ys) wo wn ev av d bv h =
    let e : v ≡ y = sym ev ∙ h.0 in
    let yv : Avoids y ys = IsDistinct-head eqb y ys d in
    let vv : Avoids v ys = subst (λ (q : ℕ). Avoids q ys) (sym e) yv in
    let vb : eqb v b ≡ false = subst (λ (q : ℕ). eqb q b ≡ false) (sym e) (apart_turned b y bv.0) in
    (wo.here ∙ e, ap (λ (q : ℕ). get_or n₂ q 0) (sym e) ∙ wn.here, chain_kept o n o₂ n₂ a v v a y b ys wo wn av vv vb h.2)

-- a place is taken out
pub taken_out : (o n o₂ n₂ : List ℕ) (p u v a b : ℕ) (xs : List ℕ) → Written u v o o₂ → Written v u n n₂ → get_or n p 0 ≡ u → get_or o p 0 ≡ v → Avoids a xs → IsDistinct eqb xs → Avoids b xs → Contains xs p → Chained o n a xs b
    → Chained o₂ n₂ a (without p xs) b
unfolding Chained
taken_out o n o₂ n₂ p u v a b [] wo wn eu ev av d bv there h = absurd (none_there p there)
taken_out o n o₂ n₂ p u v a b (x ∷ xs) wo wn eu ev av d bv there h =
    go (eqb x p) refl (λ k. taken_out o n o₂ n₂ p u v x b xs wo wn eu ev (IsDistinct-head eqb x xs d) (IsDistinct-tail eqb x xs d) bv.1 k h.2)
  where
    first : x ≡ p → Chained o₂ n₂ a (without p xs) b
    first e =
        let ua : u ≡ a = sym eu ∙ ap (λ (q : ℕ). get_or n q 0) (sym e) ∙ h.1 in
        let pv : Avoids p xs = subst (λ (q : ℕ). Avoids q xs) e (IsDistinct-head eqb x xs d) in
        subst (λ (ys : List ℕ). Chained o₂ n₂ a ys b) (sym (without_none p xs pv))
        (first_out o n o₂ n₂ p v a b xs (subst (λ (q : ℕ). Written q v o o₂) ua wo) (subst (λ (q : ℕ). Written v q n n₂) ua wn) ev av.1 (IsDistinct-tail eqb x xs d) bv.1 (subst (λ (q : ℕ). Chained o n q xs b) e h.2))

    later : (x ≡ p → ⊥) → (Contains xs p → Chained o₂ n₂ x (without p xs) b) → Chained o₂ n₂ a (x ∷ without p xs) b
    later ne k =
        let there₂ : Contains xs p = Contains-tail x xs p ne there in
        let xv : Avoids x xs = IsDistinct-head eqb x xs d in
        let au : eqb a u ≡ false = subst (λ (q : ℕ). eqb a q ≡ false) eu (newer_has (λ q. eqb a q ≡ false) o n p x b xs av.0 av.1 there₂ h.2) in
        let xw : eqb x v ≡ false = subst (λ (q : ℕ). eqb x q ≡ false) ev (older_has (λ q. eqb x q ≡ false) o n p x b xs (apart_turned b x bv.0) xv there₂ h.2) in
        (wo.others a (eqb-false a u au) ∙ h.0, wn.others x (eqb-false x v xw) ∙ h.1, k there₂)

    go : (t : Bool) → eqb x p ≡ t → (Contains xs p → Chained o₂ n₂ x (without p xs) b) → Chained o₂ n₂ a (cond (not t) (x ∷ without p xs) (without p xs)) b
    go true e k = first (eqb-true x p e)
    go false e k = later (eqb-false x p e) k

-- a place is put in front
pub put_first : (o n o₁ n₁ o₂ n₂ : List ℕ) (p f : ℕ) (xs : List ℕ) → get_or o 0 0 ≡ f → Written p f o o₁ → Written 0 p o₁ o₂ → Written p 0 n n₁ → Written f p n₁ n₂ → eqb p 0 ≡ false → Avoids p xs → Avoids 0 xs → IsDistinct eqb xs → Chained o n 0 xs 0
    → Chained o₂ n₂ 0 (p ∷ xs) 0
unfolding Chained
put_first o n o₁ n₁ o₂ n₂ p f [] ef w₁ w₂ v₁ v₂ p0 pv zv d h =
    let e : f ≡ 0 = sym ef ∙ h.0 in
    let pf : eqb p f ≡ false = subst (λ (q : ℕ). eqb p q ≡ false) (sym e) p0 in
    (w₂.here, v₂.others p (eqb-false p f pf) ∙ v₁.here, (w₂.others p (eqb-false p 0 p0) ∙ w₁.here ∙ e, ap (λ (q : ℕ). get_or n₂ q 0) (sym e) ∙ v₂.here))
put_first o n o₁ n₁ o₂ n₂ p f (x ∷ xs) ef w₁ w₂ v₁ v₂ p0 pv zv d h =
    let e : f ≡ x = sym ef ∙ h.0 in
    let pf : eqb p f ≡ false = subst (λ (q : ℕ). eqb p q ≡ false) (sym e) pv.0 in
    let fv : Avoids f xs = subst (λ (q : ℕ). Avoids q xs) (sym e) (IsDistinct-head eqb x xs d) in
    let f0 : eqb f 0 ≡ false = subst (λ (q : ℕ). eqb q 0 ≡ false) (sym e) (apart_turned 0 x zv.0) in
    let tail = chain_kept o₁ n₁ o₂ n₂ 0 p f p x 0 xs w₂ v₂ zv fv f0 (chain_kept o n o₁ n₁ p f p 0 x 0 xs w₁ v₁ pv pv.1 p0 h.2) in
    (w₂.here, v₂.others p (eqb-false p f pf) ∙ v₁.here, (w₂.others p (eqb-false p 0 p0) ∙ w₁.here ∙ e, ap (λ (q : ℕ). get_or n₂ q 0) (sym e) ∙ v₂.here, tail))

-- the places that the links lead to are those of the chain
pub places_after_are : (o n : List ℕ) (a b : ℕ) (xs : List ℕ) → Chained o n a xs b → places_after o (length xs) a ≡ xs
unfolding Chained places_after
places_after_are o n a b [] h = refl
places_after_are o n a b (x ∷ xs) h =
    ap (λ (y : ℕ). y ∷ places_after o (length xs) y) h.0
    ∙ ap (λ (ys : List ℕ). x ∷ ys) (places_after_are o n x b xs h.2)

-- the oldest place is the one before the end
pub last_newer : (o n : List ℕ) (a b x : ℕ) (xs : List ℕ) → Chained o n a (x ∷ xs) b → get_or n b 0 ≡ get_or (x ∷ xs) (length xs) 0
unfolding Chained
last_newer o n a b x [] h = h.2.1
last_newer o n a b x (y ∷ ys) h = last_newer o n x b y ys h.2
