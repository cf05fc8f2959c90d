-- A table has each flow once, and no more than it may keep.
use Rattle.std.proofs.Common.{◌≡◌, ℕ, ◌≤◌, Bool, true, false, List, [], ◌∷◌, length, take, zero, suc, Option, Some, None, refl, sym, ap, ◌∙◌, subst, arith}
use Rattle.std.specs.Prelude.{if◌then◌else◌}
use Rattle.five_tuple.specs.declared.Flow.{Flow}
use Rattle.connection_table.specs.declared.table.Entry.{Entry}
use Rattle.connection_table.specs.Recency.{at_clock, moved, put_over}
use Rattle.connection_table.specs.Touches.{same_flow, Touch, last_touch, without}
use Rattle.connection_table.specs.Tables.{EachFlowOnce, IsTable, EmptyIsTable, StoringKeepsTables, TouchingKeepsTables}
use Rattle.connection_table.proofs.Standing.{same_flow-true}

some_none : (e : Entry) → Some e ≡ None → ⊥
some_none e h = cc

-- a flow that isn't there isn't there without another
absent : (x y : Flow) (ts : List Touch) → last_touch y ts ≡ None → last_touch y (without x ts) ≡ None
absent x y [] h = refl
absent x y (t ∷ ts) h = go (same_flow t.0 y) (same_flow t.0 x) refl h (absent x y ts)
  where
    go : (b c : Bool) → same_flow t.0 y ≡ b → (if b then Some t.1 else last_touch y ts) ≡ None → (last_touch y ts ≡ None → last_touch y (without x ts) ≡ None) → last_touch y (if c then ts else t ∷ without x ts) ≡ None
    go true c e h k = absurd (some_none t.1 h)
    go false true e h k = h
    go false false e h k = ap (λ (b : Bool). if b then Some t.1 else last_touch y (without x ts)) e ∙ k h

-- a flow isn't there without itself
gone : (x : Flow) (ts : List Touch) → EachFlowOnce ts → last_touch x (without x ts) ≡ None
gone x [] h = refl
gone x (t ∷ ts) h = go (same_flow t.0 x) refl (gone x ts h.1)
  where
    go : (c : Bool) → same_flow t.0 x ≡ c → last_touch x (without x ts) ≡ None → last_touch x (if c then ts else t ∷ without x ts) ≡ None
    go true e k = subst (λ (y : Flow). last_touch y ts ≡ None) (same_flow-true t.0 x e) h.0
    go false e k = ap (λ (b : Bool). if b then Some t.1 else last_touch x (without x ts)) e ∙ k

once_without : (x : Flow) (ts : List Touch) → EachFlowOnce ts → EachFlowOnce (without x ts)
once_without x [] h = tt
once_without x (t ∷ ts) h = go (same_flow t.0 x) (once_without x ts h.1)
  where
    go : (c : Bool) → EachFlowOnce (without x ts) → EachFlowOnce (if c then ts else t ∷ without x ts)
    go true k = h.1
    go false k = (absent x t.0 ts h.0, k)

-- a flow that is there takes one place
length_without : (x : Flow) (ts : List Touch) (e : Entry) → last_touch x ts ≡ Some e → suc (length (without x ts)) ≡ length ts
length_without x [] e h = absurd (some_none e (sym h))
length_without x (t ∷ ts) e h = go (same_flow t.0 x) h (length_without x ts e)
  where
    go : (c : Bool) → (if c then Some t.1 else last_touch x ts) ≡ Some e → (last_touch x ts ≡ Some e → suc (length (without x ts)) ≡ length ts) → suc (length (if c then ts else t ∷ without x ts)) ≡ suc (length ts)
    go true h k = refl
    go false h k = ap suc (k h)

-- in front of the others
pub in_front : (x : Flow) (e : Entry) (ts : List Touch) → EachFlowOnce ts → EachFlowOnce ((x, e) ∷ without x ts)
in_front x e ts h = (gone x ts h, once_without x ts h)

pub absent_take : (y : Flow) (n : ℕ) (ts : List Touch) → last_touch y ts ≡ None → last_touch y (take n ts) ≡ None
absent_take y zero [] h = refl
absent_take y zero (t ∷ ts) h = refl
absent_take y (suc n) [] h = refl
absent_take y (suc n) (t ∷ ts) h = go (same_flow t.0 y) h (absent_take y n ts)
  where
    go : (b : Bool) → (if b then Some t.1 else last_touch y ts) ≡ None → (last_touch y ts ≡ None → last_touch y (take n ts) ≡ None) → (if b then Some t.1 else last_touch y (take n ts)) ≡ None
    go true h k = absurd (some_none t.1 h)
    go false h k = k h

pub once_take : (n : ℕ) (ts : List Touch) → EachFlowOnce ts → EachFlowOnce (take n ts)
once_take zero [] h = tt
once_take zero (t ∷ ts) h = tt
once_take (suc n) [] h = tt
once_take (suc n) (t ∷ ts) h = (absent_take t.0 n ts h.0, once_take n ts h.1)

take_few : (n : ℕ) (ts : List Touch) → length (take n ts) ≤ n
take_few zero [] = omega arith
take_few zero (t ∷ ts) = omega arith
take_few (suc n) [] = omega arith
take_few (suc n) (t ∷ ts) = let h : length (take n ts) ≤ n = take_few n ts in omega arith

pub empty_is_table : EmptyIsTable
empty_is_table capacity = record { once = tt; few = omega arith }

pub touching_keeps : TouchingKeepsTables
touching_keeps capacity clock x ts h = go (last_touch x ts) refl
  where
    go : (o : Option Entry) → last_touch x ts ≡ o → IsTable capacity (moved clock x o ts)
    go None e = h
    go (Some entry) e = record { once = in_front x (at_clock clock entry) ts h.once; few = subst (λ (n : ℕ). n ≤ capacity) (sym (length_without x ts entry e)) h.few }

pub storing_keeps : StoringKeepsTables
storing_keeps capacity x entry ts some h = go (last_touch x ts) refl
  where
    go : (o : Option Entry) → last_touch x ts ≡ o → IsTable capacity (put_over o capacity x entry ts)
    go None e = record { once = once_take capacity ((x, entry) ∷ ts) (e, h.once); few = take_few capacity ((x, entry) ∷ ts) }
    go (Some older) e = record { once = in_front x entry ts h.once; few = subst (λ (n : ℕ). n ≤ capacity) (sym (length_without x ts older e)) h.few }
