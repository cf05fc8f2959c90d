-- What is told of a list's first element from the list's end.
use Rattle.std.proofs.Common.{Bor, option_copied, ◌≡◌, ℕ, suc, ◌-◌, ◌<◌, Bool, cond, List, [], ◌∷◌, ◌++◌, length, reverse, get_or, subst, find, slice_get, Option, Some, None, refl, ap, sym, ◌∙◌, arith, inl, inr}
use Rattle.std.proofs.lemmas.Bool.{cases_Bool, false≢true}
use Rattle.std.proofs.lemmas.Option.{slice_get_past, slice_get-get_or}
use Rattle.std.proofs.lemmas.List.{length-reverse, get_or-reverse, reverse-append}
use Rattle.std.specs.Slice.{IsItemAt}
use Rattle.std.specs.Prelude.{nat_eq, if◌then◌else◌, Result, Ok, Err, IsOk, is_ok}
use Rattle.five_tuple.specs.declared.Flow.{Flow}
use Rattle.pool_versions.specs.declared.key.ServiceKey.{ServiceKey}
use Rattle.selection.specs.Readied.{Readied, ReadiedService, serves_readied}
use Rattle.pool_versions.specs.Pool.{same_key, key_of_flow}
use Rattle.selection.specs.Places.{behind_first, key_of_readied, ArePlaced, AreNumbered}

-- where nobody is told there is none
pub none_first : {X : Type 0} (test : X → Bool) (xs : List X) → behind_first test xs ≡ None → find test xs ≡ None
none_first test [] e = refl
none_first test (x ∷ xs) e = elim (cases_Bool (test x)) [
  | inl here ↦ absurd (some_is_not (length xs) (ap (λ (b : Bool). cond b (Some (length xs)) (behind_first test xs)) (sym here) ∙ e))
  | inr other ↦ rw other (none_first test xs (ap (λ (b : Bool). cond b (Some (length xs)) (behind_first test xs)) (sym other) ∙ e))
]
  where
    some_is_not : (n : ℕ) → Some n ≡ None → ⊥
    some_is_not n h = cc

-- fewer stand behind the first than there are
pub behind_below : {X : Type 0} (test : X → Bool) (xs : List X) (k : ℕ) → behind_first test xs ≡ Some k → k < length xs
behind_below test [] k e = absurd cc
behind_below test (x ∷ xs) k e = elim (cases_Bool (test x)) [
  | inl here ↦ let h : Some (length xs) ≡ Some k = ap (λ (b : Bool). cond b (Some (length xs)) (behind_first test xs)) (sym here) ∙ e in let s : length xs ≡ k = cc in omega (arith, s)
  | inr other ↦ let h : k < length xs = behind_below test xs k (ap (λ (b : Bool). cond b (Some (length xs)) (behind_first test xs)) (sym other) ∙ e) in omega (arith, h)
]

-- the first is found by how many stand behind it
pub first_is_there : {X : Type 0} (test : X → Bool) (xs : List X) (k : ℕ) → behind_first test xs ≡ Some k → slice_get xs (length xs - 1 - k) ≡ find test xs
first_is_there test [] k e = absurd cc
first_is_there test (x ∷ xs) k e = elim (cases_Bool (test x)) [
  | inl here ↦
      let h : Some (length xs) ≡ Some k = ap (λ (b : Bool). cond b (Some (length xs)) (behind_first test xs)) (sym here) ∙ e in
      let s : length xs ≡ k = cc in
      let at : length (x ∷ xs) - 1 - k ≡ 0 = omega (arith, s) in
      rw (at, here) refl
  | inr other ↦
      let h : behind_first test xs ≡ Some k = ap (λ (b : Bool). cond b (Some (length xs)) (behind_first test xs)) (sym other) ∙ e in
      let low : k < length xs = behind_below test xs k h in
      let at : length (x ∷ xs) - 1 - k ≡ suc (length xs - 1 - k) = omega (arith, low) in
      rw (at, other) (first_is_there test xs k h)
]

-- a place from a list's end
mirrored : {X : Type 0} (xs : List X) (k : ℕ) → k < length xs → slice_get (reverse xs) (length xs - 1 - k) ≡ slice_get xs k
mirrored [] k low = absurd (omega (arith, low))
mirrored (x ∷ xs) k low =
    let n : ℕ = length (x ∷ xs) in
    let behind : n - 1 - k < n = omega (arith, low) in
    slice_get-get_or (reverse (x ∷ xs)) (n - 1 - k) x (subst (λ (m : ℕ). n - 1 - k < m) (sym (length-reverse (x ∷ xs))) behind)
    ∙ ap Some (get_or-reverse (x ∷ xs) (n - 1 - k) x behind ∙ ap (λ (i : ℕ). get_or (x ∷ xs) i x) (omega (arith, low)))
    ∙ sym (slice_get-get_or (x ∷ xs) k x low)

-- the last is the first from the end
pub last_mirrored : {X : Type 0} (xs : List X) → slice_get xs (length xs - 1) ≡ slice_get (reverse xs) 0
last_mirrored [] = refl
last_mirrored (x ∷ xs) =
    let n : ℕ = length (x ∷ xs) in
    sym (mirrored (x ∷ xs) (n - 1) (omega arith)) ∙ ap (λ (i : ℕ). slice_get (reverse (x ∷ xs)) i) (omega arith)

-- the first from the end is at the place that is told
pub mirrored_first : {X : Type 0} (test : X → Bool) (xs : List X) (k : ℕ) → behind_first test (reverse xs) ≡ Some k → slice_get xs k ≡ find test (reverse xs)
mirrored_first test xs k e =
    let low : k < length xs = subst (λ (n : ℕ). k < n) (length-reverse xs) (behind_below test (reverse xs) k e) in
    sym (mirrored xs k low) ∙ ap (λ (n : ℕ). slice_get (reverse xs) (n - 1 - k)) (sym (length-reverse xs)) ∙ first_is_there test (reverse xs) k e

-- one more at the end is one more in front
pub mirrored_put : {X : Type 0} (xs : List X) (x : X) → reverse (xs ++ x ∷ []) ≡ x ∷ reverse xs
mirrored_put xs x = reverse-append xs (x ∷ [])

-- one more version stands in front
pub numbered_put : {S : Type 0} (at after : ℕ → Option ℕ) (p : Readied S) (ps qs : List (Readied S)) (key behind : ℕ) → AreNumbered at ps → key ≡ p.number → behind ≡ length ps → ((n : ℕ) → after n ≡ cond (nat_eq key n) (Some behind) (at n)) → qs ≡ p ∷ ps → AreNumbered after qs
numbered_put at after p ps qs key behind had k b put e = rw e (λ n.
    put n ∙ ap (λ (m : ℕ). cond (nat_eq m n) (Some behind) (at n)) k ∙ ap (λ (m : ℕ). cond (nat_eq p.number n) (Some m) (at n)) b ∙ ap (λ (o : Option ℕ). cond (nat_eq p.number n) (Some (length ps)) o) (had n))

-- one more service stands in front
pub placed_put : {S : Type 0} (at after : ServiceKey → Option ℕ) (s : ReadiedService S) (ss ts : List (ReadiedService S)) (key : ServiceKey) (behind : ℕ) → ArePlaced at ss → key ≡ key_of_readied s → behind ≡ length ss → ((k : ServiceKey) → after k ≡ cond (same_key key k) (Some behind) (at k)) → ts ≡ s ∷ ss → ArePlaced after ts
placed_put at after s ss ts key behind had k b put e = rw e (λ x.
    put (key_of_flow x) ∙ ap (λ (m : ServiceKey). cond (same_key m (key_of_flow x)) (Some behind) (at (key_of_flow x))) k ∙ ap (λ (m : ℕ). cond (serves_readied x s) (Some m) (at (key_of_flow x))) b ∙ ap (λ (o : Option ℕ). cond (serves_readied x s) (Some (length ss)) o) (had x))

pub if_ok : {A B X : Type 0} (r : Result A B) (xs ys zs : List X) → IsOk r → zs ≡ (if is_ok r then xs else ys) → zs ≡ xs
if_ok (Ok a) xs ys zs ok e = e
if_ok (Err b) xs ys zs ok e = absurd (false≢true ok)

-- a flow with a key
pub flow_of : ServiceKey → Flow
flow_of k = record { src = 0; dst = k.vip; sport = 0; dport = k.port; proto = k.proto }

pub key_of_flow_of : (k : ServiceKey) → k ≡ key_of_flow (flow_of k)
unfolding flow_of
key_of_flow_of k = refl

-- what `get` answers
pub got : {X : Type 0} (xs : List X) (i : ℕ) (r : Option (Bor X)) → IsItemAt xs i r → option_copied r ≡ slice_get xs i
got xs i None h = sym (slice_get_past xs i h.3)
got xs i (Some x) h = sym (slice_get-get_or xs i x.now h.3.0 ∙ ap Some (sym h.1))
