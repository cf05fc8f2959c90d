-- Where a flow stands in a list, and the list without it.
use Rattle.std.proofs.Common.{◌≡◌, ℕ, ◌+◌, ◌-◌, ◌<◌, ◌≤◌, Bool, true, false, List, [], ◌∷◌, length, get_or, take, cond, zero, suc, Option, Some, None, refl, sym, ap, ◌∙◌, subst, arith}
use Rattle.std.specs.Prelude.{IsSome, if◌then◌else◌, remove, insert, position, not, nat_lt}
use Rattle.std.specs.List.{position_or_len}
use Rattle.std.proofs.lemmas.Bool.Decides.{nat_tests}
use Rattle.five_tuple.specs.declared.Flow.{Flow}
use Rattle.connection_table.specs.declared.table.Entry.{Entry}
use Rattle.connection_table.specs.Touches.{same_flow}
use Rattle.connection_table.specs.Recency.{put_over, stored}
use Rattle.connection_table.specs.Touches.{Touch, last_touch, without}

-- the first place of the flow, or the length
abbrev pub place : Flow → List Touch → ℕ
place x ts = position_or_len (λ t. same_flow t.0 x) ts

abbrev pub FoundAt : Flow → Touch → List Touch → Option Entry → List Touch → ℕ → Type 0
FoundAt x d ts o rest i = (o ≡ Some (get_or ts i d).1) × (rest ≡ remove ts i) × (same_flow (get_or ts i d).0 x ≡ true)

found_later : (x : Flow) (t d : Touch) (ts rest : List Touch) (o : Option Entry) (n : ℕ) → FoundAt x d ts o rest n → FoundAt x d (t ∷ ts) o (t ∷ rest) (1 + n)
found_later x t d ts rest o n h =
    let e : 1 + n ≡ suc n = omega arith in
    subst (λ (m : ℕ). FoundAt x d (t ∷ ts) o (t ∷ rest) m) (sym e) (h.0, ap (λ (l : List Touch). t ∷ l) h.1, h.2)

found_cases : (x : Flow) (t d : Touch) (ts rest : List Touch) (o : Option Entry) (n : ℕ) (b : Bool) → same_flow t.0 x ≡ b → (b ≡ false → FoundAt x d ts o rest n) → FoundAt x d (t ∷ ts) (if b then Some t.1 else o) (if b then ts else t ∷ rest) (cond (not b) (1 + n) 0)
found_cases x t d ts rest o n true e h = (refl, refl, e)
found_cases x t d ts rest o n false e h = found_later x t d ts rest o n (h refl)

pub found-at : (x : Flow) (ts : List Touch) (d : Touch) → place x ts < length ts → FoundAt x d ts (last_touch x ts) (without x ts) (place x ts)
found-at x [] d h = absurd (omega arith)
found-at x (t ∷ ts) d h = found_cases x t d ts (without x ts) (last_touch x ts) (place x ts) (same_flow t.0 x) refl (λ e. found-at x ts d (grind (arith, nat_tests)))

pub missing-at : (x : Flow) (ts : List Touch) → length ts ≤ place x ts → (last_touch x ts ≡ None) × (without x ts ≡ ts)
missing-at x [] h = (refl, refl)
missing-at x (t ∷ ts) h = missing_cases t ts (place x ts) (last_touch x ts) (without x ts) (same_flow t.0 x) h (missing-at x ts)
  where
    missing_cases : (t : Touch) (ts : List Touch) (n : ℕ) (o : Option Entry) (rest : List Touch) (b : Bool) → length (t ∷ ts) ≤ cond (not b) (1 + n) 0 → (length ts ≤ n → (o ≡ None) × (rest ≡ ts)) → ((if b then Some t.1 else o) ≡ None) × ((if b then ts else t ∷ rest) ≡ t ∷ ts)
    missing_cases t ts n o rest true h k = absurd (omega arith)
    missing_cases t ts n o rest false h k = let r : (o ≡ None) × (rest ≡ ts) = k (omega arith) in (r.0, ap (λ (l : List Touch). t ∷ l) r.1)

-- what `position` says
pub at-place : (x : Flow) (ts : List Touch) (i : ℕ) → Some i ≡ position (λ t. same_flow t.0 x) ts → (i ≡ place x ts) × (i < length ts)
at-place x ts i h = at_cases (place x ts) (length ts) i h
  where
    at_cases : (n m i : ℕ) → Some i ≡ cond (nat_lt n m) (Some n) None → (i ≡ n) × (i < m)
    at_cases n m i h = grind (arith, nat_tests)

pub no-place : (x : Flow) (ts : List Touch) → None ≡ position (λ t. same_flow t.0 x) ts → length ts ≤ place x ts
no-place x ts h = no_cases (place x ts) (length ts) h
  where
    no_cases : (n m : ℕ) → ◌≡◌ {A = Option ℕ} None (cond (nat_lt n m) (Some n) None) → m ≤ n
    no_cases n m h = grind (arith, nat_tests)

pub found : (x : Flow) (ts : List Touch) (i : ℕ) (d : Touch) → Some i ≡ position (λ t. same_flow t.0 x) ts → FoundAt x d ts (last_touch x ts) (without x ts) i
found x ts i d h = let e : (i ≡ place x ts) × (i < length ts) = at-place x ts i h in subst (λ (m : ℕ). FoundAt x d ts (last_touch x ts) (without x ts) m) (sym e.0) (found-at x ts d (subst (λ (m : ℕ). m < length ts) e.0 e.1))

pub missing : (x : Flow) (ts : List Touch) → None ≡ position (λ t. same_flow t.0 x) ts → (last_touch x ts ≡ None) × (without x ts ≡ ts)
missing x ts h = missing-at x ts (no-place x ts h)

-- the entry at the flow's place
pub entry_at : (x : Flow) (ts : List Touch) (i : ℕ) (r : Touch) → Some i ≡ position (λ t. same_flow t.0 x) ts → r ≡ get_or ts i r → Some r.1 ≡ last_touch x ts
entry_at x ts i r h e =
    let f : FoundAt x r ts (last_touch x ts) (without x ts) i = found x ts i r h in
    ap (λ (t : Touch). Some t.1) e ∙ sym f.0

pub take_all : (n : ℕ) (ts : List Touch) → length ts ≤ n → take n ts ≡ ts
take_all zero [] h = refl
take_all (suc n) [] h = refl
take_all zero (t ∷ ts) h = absurd (omega arith)
take_all (suc n) (t ∷ ts) h = ap (λ (l : List Touch). t ∷ l) (take_all n ts (omega arith))

pub stored_at : (x : Flow) (e : Entry) (ts : List Touch) (i n : ℕ) → Some i ≡ position (λ t. same_flow t.0 x) ts → (x, e) ∷ remove ts i ≡ stored n x e ts
stored_at x e ts i n h =
    let f : FoundAt x (x, e) ts (last_touch x ts) (without x ts) i = found x ts i (x, e) h in
    sym (ap (λ (o : Option Entry). put_over o n x e ts) f.0 ∙ ap (λ (l : List Touch). (x, e) ∷ l) f.1)

pub stored_new : (x : Flow) (e : Entry) (ts : List Touch) (n : ℕ) → None ≡ position (λ t. same_flow t.0 x) ts → length ts < n → (x, e) ∷ ts ≡ stored n x e ts
stored_new x e ts n h fits =
    let m : (last_touch x ts ≡ None) × (without x ts ≡ ts) = missing x ts h in
    sym (ap (λ (o : Option Entry). put_over o n x e ts) m.0 ∙ take_all n ((x, e) ∷ ts) (omega arith))

pub stored_full : (x : Flow) (e : Entry) (ts : List Touch) (n : ℕ) → None ≡ position (λ t. same_flow t.0 x) ts → 0 < n → (x, e) ∷ take (n - 1) ts ≡ stored n x e ts
stored_full x e ts zero h pos = absurd (omega arith)
stored_full x e ts (suc n) h pos =
    let m : (last_touch x ts ≡ None) × (without x ts ≡ ts) = missing x ts h in
    let k : suc n - 1 ≡ n = omega arith in
    ap (λ (j : ℕ). (x, e) ∷ take j ts) k ∙ sym (ap (λ (o : Option Entry). put_over o (suc n) x e ts) m.0)

-- what an insertion at the front leaves
pub placed : (news olds : List Touch) (t : Touch) (b : Bool) → news ≡ (if b then insert olds 0 t else olds) → b ≡ true → news ≡ t ∷ olds
placed news olds t true h k = h
placed news olds t false h k = absurd (cc)

pub none_there : (o : Option Entry) (P : Type 0) → o ≡ None → IsSome o → P
none_there None P h s = absurd (cc)
none_there (Some e) P h s = absurd (cc)
