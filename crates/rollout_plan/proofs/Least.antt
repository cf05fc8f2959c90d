-- No table with the same counts changes fewer slots.
use Rattle.std.proofs.Common.{◌≡◌, ℕ, ◌+◌, ◌-◌, ◌≤◌, refl, sym, ◌∙◌, ap, subst, arith, Bool, true, false, cond, not, ◌&&◌, List, [], ◌∷◌, Option, Some, None, inl, inr}
use Rattle.std.specs.List.{list_any, range_with_len, count_by, sum_by}
use Rattle.std.proofs.lemmas.Bool.{cases_Bool, or_parts, true≢false}
use Rattle.std.proofs.lemmas.List.Sums.{sum_by-cons}
use Rattle.pool_versions.specs.declared.backend.Backend.{Backend}
use Rattle.pool_versions.specs.Pool.{has_double}
use Rattle.selection.specs.Picks.{NamedTable}
use Rattle.selection.specs.Readied.{same_backend}
use Rattle.selection.proofs.Among.{same_is, is_same}
use Rattle.table_commands.specs.Compare.{name_alike, named_at}
use Rattle.rollout_plan.specs.Counts.{slots_naming, slots_lost}
use Rattle.rollout_plan.specs.Laws.{NamesOnce, HaveTheSameCounts, LeastIsLeast}

sum_zero : {X : Type 0} (f : X → ℕ) (xs : List X) → ((x : X) → f x ≡ 0) → sum_by f xs ≡ 0
sum_zero f [] h = refl
sum_zero f (x ∷ xs) h = omega (arith, sum_by-cons f x xs, h x, sum_zero f xs h)

sum_same : {X : Type 0} (f g : X → ℕ) (xs : List X) → ((x : X) → f x ≡ g x) → sum_by f xs ≡ sum_by g xs
sum_same f g [] h = refl
sum_same f g (x ∷ xs) h = omega (arith, sum_by-cons f x xs, sum_by-cons g x xs, h x, sum_same f g xs h)

sum_step : {X : Type 0} (f g h : X → ℕ) (xs : List X) → ((x : X) → f x ≤ g x + h x) → sum_by f xs ≤ sum_by g xs + sum_by h xs
sum_step f g h [] e = omega arith
sum_step f g h (x ∷ xs) e = omega (arith, sum_by-cons f x xs, sum_by-cons g x xs, sum_by-cons h x xs, e x, sum_step f g h xs e)

-- how many numbers fewer pass the second test than the first
abbrev fewer : (ℕ → Bool) → (ℕ → Bool) → List ℕ → ℕ
fewer p q slots = count_by p slots - count_by q slots

abbrev gain : Bool → Bool → ℕ
gain p q = cond (p && not q) 1 0

one_more : (a b m n : ℕ) (p q : Bool) → a ≡ cond p 1 0 + m → b ≡ cond q 1 0 + n → a - b ≤ (m - n) + gain p q
one_more a b m n true true e f = omega (arith, e, f)
one_more a b m n true false e f = omega (arith, e, f)
one_more a b m n false true e f = omega (arith, e, f)
one_more a b m n false false e f = omega (arith, e, f)

fewer_more : (p q : ℕ → Bool) (slot : ℕ) (slots : List ℕ) → fewer p q (slot ∷ slots) ≤ fewer p q slots + gain (p slot) (q slot)
fewer_more p q slot slots =
    one_more (count_by p (slot ∷ slots)) (count_by q (slot ∷ slots)) (count_by p slots) (count_by q slots) (p slot) (q slot)
    (sum_by-cons (λ s. cond {A = ℕ} (p s) 1 0) slot slots) (sum_by-cons (λ s. cond {A = ℕ} (q s) 1 0) slot slots)

-- how many slots fewer name somebody, over some backends and nobody
abbrev lost_over : List Backend → (ℕ → Option Backend) → (ℕ → Option Backend) → List ℕ → ℕ
lost_over bs x y slots =
    sum_by (λ b. fewer (λ s. name_alike (Some b) (x s)) (λ s. name_alike (Some b) (y s)) slots) bs + fewer (λ s. name_alike None (x s)) (λ s. name_alike None (y s)) slots

-- how many of them lose one slot
abbrev losers : List Backend → Option Backend → Option Backend → ℕ
losers bs x y = sum_by (λ b. gain (name_alike (Some b) x) (name_alike (Some b) y)) bs + gain (name_alike None x) (name_alike None y)

apart_both_ways : (b c : Backend) → same_backend b c ≡ false → same_backend c b ≡ false
apart_both_ways b c h = elim (cases_Bool (same_backend c b)) [
  | inl same ↦
      let e : c ≡ b = same_is c b same in
      let bad : same_backend b c ≡ true = subst (λ (d : Backend). same_backend b d ≡ true) (sym e) (is_same b) in
      absurd (true≢false (sym bad ∙ h))
  | inr apart ↦ apart
]

no_gain : (p q : Bool) → p ≡ false → gain p q ≡ 0
no_gain p q e = rw e refl

-- a backend that is in none of the places isn't lost
none_lost : (b : Backend) (g : Backend → Bool) (bs : List Backend) → list_any (same_backend b) bs ≡ false → sum_by (λ c. gain (same_backend c b) (g c)) bs ≡ 0
none_lost b g [] h = refl
none_lost b g (c ∷ cs) h =
    let parts = or_parts (same_backend b c) (list_any (same_backend b) cs) h in
    omega (arith, sum_by-cons (λ d. gain (same_backend d b) (g d)) c cs, no_gain (same_backend c b) (g c) (apart_both_ways b c parts.0), none_lost b g cs parts.1)

gain_le : (p q : Bool) → gain p q ≤ 1
gain_le true true = omega arith
gain_le true false = omega arith
gain_le false q = omega arith

-- of backends that are there once at most one is this
one_lost : (a : Backend) (g : Backend → Bool) (bs : List Backend) → has_double same_backend bs ≡ false → sum_by (λ b. gain (same_backend b a) (g b)) bs ≤ 1
one_lost a g [] h = omega arith
one_lost a g (b ∷ bs) h =
    let parts = or_parts (list_any (same_backend b) bs) (has_double same_backend bs) h in
    let c = sum_by-cons (λ d. gain (same_backend d a) (g d)) b bs in
    elim (cases_Bool (same_backend b a)) [
      | inl same ↦
          let e : b ≡ a = same_is b a same in
          let none : sum_by (λ d. gain (same_backend d a) (g d)) bs ≡ 0 = subst (λ (x : Backend). sum_by (λ d. gain (same_backend d x) (g d)) bs ≡ 0) e (none_lost b g bs parts.0) in
          omega (arith, c, none, gain_le (same_backend b a) (g b))
      | inr apart ↦ omega (arith, c, no_gain (same_backend b a) (g b) apart, one_lost a g bs parts.1)
    ]

all_gain : (p q : Bool) → (p ≡ true → q ≡ true) → gain p q ≡ 0
all_gain true q h = rw (h refl) refl
all_gain false q h = refl

-- a slot is lost by one at most, and by none where it names whom it named
losers_by : (bs : List Backend) (x y : Option Backend) (same : Bool) → NamesOnce bs → name_alike x y ≡ same → losers bs x y ≤ cond (not same) 1 0
losers_by bs None None same once e = rw (sym e) (omega (arith, sum_zero (λ b. gain false (name_alike (Some b) None)) bs (λ b. refl)))
losers_by bs None (Some c) same once e = rw (sym e) (omega (arith, sum_zero (λ b. gain false (name_alike (Some b) (Some c))) bs (λ b. refl)))
losers_by bs (Some a) y true once e =
    omega (arith, sum_zero (λ b. gain (same_backend b a) (name_alike (Some b) y)) bs (λ b. all_gain (same_backend b a) (name_alike (Some b) y) (λ h. subst (λ (d : Backend). name_alike (Some d) y ≡ true) (sym (same_is b a h)) e)))
losers_by bs (Some a) y false once e = omega (arith, one_lost a (λ b. name_alike (Some b) y) bs once)

lost_none : (bs : List Backend) (x y : ℕ → Option Backend) → lost_over bs x y [] ≡ 0
lost_none bs x y = omega (arith, sum_zero (λ (b : Backend). 0 - 0) bs (λ b. refl))

-- no more are lost than slots name somebody else
pub lost_le : (bs : List Backend) (x y : ℕ → Option Backend) (slots : List ℕ) → NamesOnce bs → lost_over bs x y slots ≤ count_by (λ s. not (name_alike (x s) (y s))) slots
lost_le bs x y [] once = omega (arith, lost_none bs x y)
lost_le bs x y (slot ∷ slots) once =
    let each = sum_step (λ b. fewer (λ s. name_alike (Some b) (x s)) (λ s. name_alike (Some b) (y s)) (slot ∷ slots)) (λ b. fewer (λ s. name_alike (Some b) (x s)) (λ s. name_alike (Some b) (y s)) slots) (λ b. gain (name_alike (Some b) (x slot)) (name_alike (Some b) (y slot))) bs
    (λ b. fewer_more (λ s. name_alike (Some b) (x s)) (λ s. name_alike (Some b) (y s)) slot slots) in
    let nobody = fewer_more (λ s. name_alike None (x s)) (λ s. name_alike None (y s)) slot slots in
    let here = losers_by bs (x slot) (y slot) (name_alike (x slot) (y slot)) once refl in
    let more = sum_by-cons (λ s. cond {A = ℕ} (not (name_alike (x s) (y s))) 1 0) slot slots in
    omega (arith, each, nobody, here, more, lost_le bs x y slots once)

same_lost : (before after other : NamedTable) → before.size ≡ after.size → HaveTheSameCounts after other → (who : Option Backend) →
    slots_lost before after who ≡ fewer (λ s. name_alike who (named_at before s)) (λ s. name_alike who (named_at other s)) (range_with_len 0 before.size)
same_lost before after other sized same who =
    let n : other.size ≡ before.size = sym same.sized ∙ sym sized in
    ap (λ (k : ℕ). slots_naming who before - k) (same.alike who ∙ ap (λ (k : ℕ). count_by (λ s. name_alike who (named_at other s)) (range_with_len 0 k)) n)

pub least_is_least : LeastIsLeast
least_is_least before after other once sized same =
    let some = sum_same (λ b. slots_lost before after (Some b)) (λ b. fewer (λ s. name_alike (Some b) (named_at before s)) (λ s. name_alike (Some b) (named_at other s)) (range_with_len 0 before.size)) before.ups
    (λ b. same_lost before after other sized same (Some b)) in
    omega (arith, some, same_lost before after other sized same None, lost_le before.ups (named_at before) (named_at other) (range_with_len 0 before.size) once)
