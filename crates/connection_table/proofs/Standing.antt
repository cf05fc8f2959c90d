-- The bounded list of the newest touches holds exactly what stands.
use Rattle.std.proofs.Common.{◌≡◌, ℕ, Bool, true, false, List, [], ◌∷◌, length, take, zero, suc, Option, None, refl, sym, ap, ◌∙◌, subst, arith}
use Rattle.std.specs.Prelude.{if◌then◌else◌, nat_lt}
use Rattle.std.proofs.lemmas.Bool.Decides.{nat_tests}
use Rattle.five_tuple.specs.declared.Flow.{Flow}
use Rattle.connection_table.specs.declared.table.Entry.{Entry}
use Rattle.connection_table.specs.Touches.{same_flow, Touch, last_touch, since, without, newest_each, distinct_flows, in_time, remembered, standing}

pub same_flow-true : (a b : Flow) → same_flow a b ≡ true → a ≡ b
same_flow-true a b h =
    let e1 : a.src ≡ b.src = grind (arith, nat_tests) in
    let e2 : a.dst ≡ b.dst = grind (arith, nat_tests) in
    let e3 : a.sport ≡ b.sport = grind (arith, nat_tests) in
    let e4 : a.dport ≡ b.dport = grind (arith, nat_tests) in
    let e5 : a.proto ≡ b.proto = grind (arith, nat_tests) in
    let f : a ≡ record { src = a.src; dst = a.dst; sport = a.sport; dport = a.dport; proto = a.proto } = refl in
    let g : b ≡ record { src = b.src; dst = b.dst; sport = b.sport; dport = b.dport; proto = b.proto } = refl in
    cc

pub same_flow-refl : (a : Flow) → same_flow a a ≡ true
same_flow-refl a = grind (arith, nat_tests)

-- what is p is not what p is not
pub same_flow-other : (p y x : Flow) → same_flow p y ≡ true → same_flow y x ≡ false → same_flow p x ≡ false
same_flow-other p y x h k = subst (λ (f : Flow). same_flow f x ≡ false) (sym (same_flow-true p y h)) k

pub lookup-without : (y x : Flow) (ts : List Touch) → same_flow y x ≡ false → last_touch x (without y ts) ≡ last_touch x ts
lookup-without y x [] h = refl
lookup-without y x (t ∷ ts) h = grind (arith, nat_tests, lookup-without y x ts h, same_flow-other t.0 y x)

pub since-without : (y x : Flow) (ts : List Touch) → same_flow y x ≡ false → since x (without y ts) ≡ without y (since x ts)
since-without y x [] h = refl
since-without y x (t ∷ ts) h = grind (arith, nat_tests, since-without y x ts h, same_flow-other t.0 y x)

pub since-newest : (x : Flow) (ts : List Touch) → since x (newest_each ts) ≡ newest_each (since x ts)
since-newest x [] = refl
since-newest x (t ∷ ts) = grind (arith, nat_tests, since-newest x ts, since-without t.0 x (newest_each ts))

pub lookup-newest : (x : Flow) (ts : List Touch) → last_touch x (newest_each ts) ≡ last_touch x ts
lookup-newest x [] = refl
lookup-newest x (t ∷ ts) = grind (arith, nat_tests, lookup-newest x ts, lookup-without t.0 x (newest_each ts))

pub take_take : (n : ℕ) (ts : List Touch) → take n (take n ts) ≡ take n ts
take_take zero ts = refl
take_take (suc n) [] = refl
take_take (suc n) (t ∷ ts) = ap (λ (l : List Touch). t ∷ l) (take_take n ts)

pub lookup-take : (n : ℕ) (x : Flow) (ts : List Touch) → last_touch x (take n ts) ≡ (if nat_lt (length (since x ts)) n then last_touch x ts else None)
lookup-take zero x ts = grind (arith, nat_tests)
lookup-take (suc n) x [] = grind (arith, nat_tests)
lookup-take (suc n) x (t ∷ ts) = grind (arith, nat_tests, lookup-take n x ts)

-- taking a flow out of a list that was cut, and cutting after it was taken out
pub take-without : (n : ℕ) (x : Flow) (ts : List Touch) → take n (without x (take (suc n) ts)) ≡ take n (without x ts)
take-without n x [] = refl
take-without zero x (t ∷ ts) = refl
take-without (suc n) x (t ∷ ts) = take-without_cases n x t ts (same_flow t.0 x) (take-without n x ts) (take_take (suc n) ts)
  where
    take-without_cases : (n : ℕ) (x : Flow) (t : Touch) (ts : List Touch) (b : Bool) → take n (without x (take (suc n) ts)) ≡ take n (without x ts) → take (suc n) (take (suc n) ts) ≡ take (suc n) ts → take (suc n) (if b then take (suc n) ts else t ∷ without x (take (suc n) ts)) ≡ take (suc n) (if b then ts else t ∷ without x ts)
    take-without_cases n x t ts true h k = k
    take-without_cases n x t ts false h k = ap (λ (l : List Touch). t ∷ l) h

-- what is remembered is what the first entries of the newest touches have
remembered-table : (capacity : ℕ) (x : Flow) (ts : List Touch) → last_touch x (take capacity (newest_each ts)) ≡ remembered capacity x ts
remembered-table capacity x ts = lookup-take capacity x (newest_each ts)
    ∙ ap (λ (l : List Touch). if nat_lt (length l) capacity then last_touch x (newest_each ts) else None) (since-newest x ts)
    ∙ ap (λ (o : Option Entry). if nat_lt (distinct_flows (since x ts)) capacity then o else None) (lookup-newest x ts)

-- what stands is what of it is in time
pub standing-table : (capacity : ℕ) (idle : Option ℕ) (clock : ℕ) (x : Flow) (ts : List Touch) → in_time idle clock (last_touch x (take capacity (newest_each ts))) ≡ standing capacity idle clock x ts
standing-table capacity idle clock x ts = ap (λ (o : Option Entry). in_time idle clock o) (remembered-table capacity x ts)

-- a touch puts its pair in front, takes an older one of that flow out, and drops what is past the capacity
pub touched-table : (capacity : ℕ) (t : Touch) (ts : List Touch) → take capacity (newest_each (t ∷ ts)) ≡ take capacity (t ∷ without t.0 (take capacity (newest_each ts)))
touched-table zero t ts = refl
touched-table (suc n) t ts = ap (λ (l : List Touch). t ∷ l) (sym (take-without n t.0 (newest_each ts)))
