-- A table that was looked in, and then stored to.
use Rattle.std.proofs.Common.{◌≡◌, ℕ, ◌-◌, ◌≤◌, Bool, true, false, List, [], ◌∷◌, length, take, zero, suc, Option, Some, None, refl, sym, ap, ◌∙◌, arith}
use Rattle.std.specs.Prelude.{if◌then◌else◌, nat_lt}
use Rattle.five_tuple.specs.declared.Flow.{Flow}
use Rattle.connection_table.specs.declared.table.Entry.{Entry}
use Rattle.connection_table.specs.Touches.{Touch, in_time, last_touch, newest_each, same_flow, without}
use Rattle.connection_table.proofs.Standing.{same_flow-refl, touched-table}
use Rattle.connection_table.specs.Recency.{at_clock, moved, put_over, stored}
use Rattle.connection_table.proofs.Places.{take_all}

-- a pair in front is found
pub last_touch-front : (x : Flow) (e : Entry) (ts : List Touch) → last_touch x ((x, e) ∷ ts) ≡ Some e
last_touch-front x e ts = ap (λ (b : Bool). if b then Some e else last_touch x ts) (same_flow-refl x)

pub without-front : (x : Flow) (e : Entry) (ts : List Touch) → without x ((x, e) ∷ ts) ≡ ts
without-front x e ts = ap (λ (b : Bool). if b then ts else (x, e) ∷ without x ts) (same_flow-refl x)

-- what stands is the entry that is there
pub stood_is : (idle : Option ℕ) (clock : ℕ) (o : Option Entry) (e : Entry) → in_time idle clock o ≡ Some e → o ≡ Some e
stood_is idle clock None e h = h
stood_is None clock (Some d) e h = h
stood_is (Some limit) clock (Some d) e h = go (nat_lt limit (clock - d.last)) h
  where
    go : (b : Bool) → (if b then None else Some d) ≡ Some e → Some d ≡ Some e
    go true k = absurd (cc)
    go false k = k

-- what stood is still there once it was touched
pub touched_is : (clock : ℕ) (x : Flow) (e : Entry) (ts : List Touch) → last_touch x (moved clock x (Some e) ts) ≡ Some (at_clock clock e)
touched_is clock x e ts = last_touch-front x (at_clock clock e) (without x ts)

-- a touch of what stands is a store of it at the clock
pub touch_stores : (capacity : ℕ) (idle : Option ℕ) (clock : ℕ) (x : Flow) (e : Entry) (ts : List Touch) → in_time idle clock (last_touch x ts) ≡ Some e → stored capacity x (at_clock clock e) ts ≡ moved clock x (Some e) ts
touch_stores capacity idle clock x e ts h = ap (λ (o : Option Entry). put_over o capacity x (at_clock clock e) ts) (stood_is idle clock (last_touch x ts) e h)

-- a store over a touched entry is a store
pub store_over : (capacity : ℕ) (idle : Option ℕ) (clock : ℕ) (x : Flow) (e : Entry) (ts : List Touch) → stored capacity x e (moved clock x (in_time idle clock (last_touch x ts)) ts) ≡ stored capacity x e ts
store_over capacity idle clock x e ts = cases (in_time idle clock (last_touch x ts)) refl
  where
    cases : (o : Option Entry) → in_time idle clock (last_touch x ts) ≡ o → stored capacity x e (moved clock x o ts) ≡ stored capacity x e ts
    cases None h = refl
    cases (Some d) h =
        ap (λ (o : Option Entry). put_over o capacity x e ((x, at_clock clock d) ∷ without x ts)) (touched_is clock x d ts)
        ∙ ap (λ (l : List Touch). (x, e) ∷ l) (without-front x (at_clock clock d) (without x ts))
        ∙ sym (ap (λ (o : Option Entry). put_over o capacity x e ts) (stood_is idle clock (last_touch x ts) d h))

pub without-missing : (x : Flow) (ts : List Touch) → last_touch x ts ≡ None → without x ts ≡ ts
without-missing x [] h = refl
without-missing x (t ∷ ts) h = go (same_flow t.0 x) h (without-missing x ts)
  where
    go : (b : Bool) → (if b then Some t.1 else last_touch x ts) ≡ None → (last_touch x ts ≡ None → without x ts ≡ ts) → (if b then ts else t ∷ without x ts) ≡ t ∷ ts
    go true h ih = absurd (cc)
    go false h ih = ap (λ (l : List Touch). t ∷ l) (ih h)

pub length-without : (x : Flow) (ts : List Touch) (e : Entry) → last_touch x ts ≡ Some e → suc (length (without x ts)) ≡ length ts
length-without x [] e h = absurd (cc)
length-without x (t ∷ ts) e h = go (same_flow t.0 x) h (length-without x ts e)
  where
    go : (b : Bool) → (if b then Some t.1 else last_touch x ts) ≡ Some e → (last_touch x ts ≡ Some e → suc (length (without x ts)) ≡ length ts) → suc (length (if b then ts else t ∷ without x ts)) ≡ length (t ∷ ts)
    go true h ih = refl
    go false h ih = ap suc (ih h)

length_take : (n : ℕ) (ts : List Touch) → length (take n ts) ≤ n
length_take zero ts = omega arith
length_take (suc n) [] = omega arith
length_take (suc n) (t ∷ ts) = omega (arith, length_take n ts)

-- what `store` leaves is the first pairs of the list with the pair put in front
pub stored-is : (capacity : ℕ) (x : Flow) (e : Entry) (ts : List Touch) → length ts ≤ capacity → stored capacity x e ts ≡ take capacity ((x, e) ∷ without x ts)
stored-is capacity x e ts fits = go (last_touch x ts) refl
  where
    go : (o : Option Entry) → last_touch x ts ≡ o → put_over o capacity x e ts ≡ take capacity ((x, e) ∷ without x ts)
    go None h = ap (λ (l : List Touch). take capacity ((x, e) ∷ l)) (sym (without-missing x ts h))
    go (Some d) h = sym (take_all capacity ((x, e) ∷ without x ts) (omega (arith, length-without x ts d h)))

-- storing a touch keeps the table that of the touches
pub stored-table : (capacity : ℕ) (t : Touch) (ts : List Touch) → take capacity (newest_each (t ∷ ts)) ≡ stored capacity t.0 t.1 (take capacity (newest_each ts))
stored-table capacity t ts = touched-table capacity t ts ∙ sym (stored-is capacity t.0 t.1 (take capacity (newest_each ts)) (length_take capacity (newest_each ts)))
