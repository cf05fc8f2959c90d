-- A cache of slots, as the table of the entries in them.
use Rattle.std.proofs.Common.{◌≡◌, ℕ, ◌-◌, ◌<◌, Bool, true, false, cond, List, [], ◌∷◌, take, length, zero, suc, Option, Some, None, refl, sym, ap, ◌∙◌, subst, arith}
use Rattle.std.specs.Prelude.{if◌then◌else◌, IsSome, IsNone}
use Rattle.std.specs.Option.{UnwrapsOrElse, option_map_or, option_map}
use Rattle.std.specs.Map.{lookup, lookup_entry, remove_entry}
use Rattle.five_tuple.specs.declared.Flow.{Flow}
use Rattle.connection_table.specs.declared.table.Entry.{Entry}
use Rattle.connection_table.specs.declared.slot.Slot.{Slot}
use Rattle.connection_table.specs.Touches.{same_flow, Touch, last_touch, without}
use Rattle.connection_table.specs.Recency.{at_clock, moved, put_over, retouched, stored}
use Rattle.connection_table.specs.Slots.{before_of, entry_of, shown, AreFull}
use Rattle.connection_table.proofs.Standing.{same_flow-true}
use Rattle.connection_table.proofs.Links.{same_sym}

-- the entries after a pair was put in front
abbrev pub put_in : {V : Type 0} → ℕ → Flow → V → List (Flow × V) → List (Flow × V)
put_in capacity x w es = option_map_or (λ e. (e.0, w) ∷ remove_entry (same_flow x) es) (lookup_entry (same_flow x) es) ((x, w) ∷ take (capacity - 1) es)

pub shown_lookup : {V : Type 0} (f : V → Entry) (x : Flow) (es : List (Flow × V)) → option_map f (lookup (same_flow x) es) ≡ last_touch x (shown f es)
shown_lookup f x [] = refl
shown_lookup {V} f x (t ∷ ts) = ap (λ (b : Bool). option_map f (cond b (Some t.1) (lookup (same_flow x) ts))) (same_sym x t.0) ∙ go (same_flow t.0 x) (shown_lookup f x ts)
  where
    go : (b : Bool) → option_map f (lookup (same_flow x) ts) ≡ last_touch x (shown f ts) → option_map f (cond b (Some t.1) (lookup (same_flow x) ts)) ≡ (if b then Some (f t.1) else last_touch x (shown f ts))
    go true h = refl
    go false h = h

pub shown_removed : {V : Type 0} (f : V → Entry) (x : Flow) (es : List (Flow × V)) → shown f (remove_entry (same_flow x) es) ≡ without x (shown f es)
shown_removed f x [] = refl
shown_removed {V} f x (t ∷ ts) = ap (λ (b : Bool). shown f (cond b ts (t ∷ remove_entry (same_flow x) ts))) (same_sym x t.0) ∙ go (same_flow t.0 x) (shown_removed f x ts)
  where
    go : (b : Bool) → shown f (remove_entry (same_flow x) ts) ≡ without x (shown f ts) → shown f (cond b ts (t ∷ remove_entry (same_flow x) ts)) ≡ (if b then shown f ts else (t.0, f t.1) ∷ without x (shown f ts))
    go true h = refl
    go false h = ap (λ (l : List Touch). (t.0, f t.1) ∷ l) h

pub entry_found : {V : Type 0} (x : Flow) (es : List (Flow × V)) → lookup_entry (same_flow x) es ≡ option_map (λ v. (x, v)) (lookup (same_flow x) es)
entry_found x [] = refl
entry_found {V} x (t ∷ ts) = go (same_flow x t.0) refl (entry_found x ts)
  where
    go : (b : Bool) → same_flow x t.0 ≡ b → lookup_entry (same_flow x) ts ≡ option_map (λ v. (x, v)) (lookup (same_flow x) ts) → cond b (Some t) (lookup_entry (same_flow x) ts) ≡ option_map (λ v. (x, v)) (cond b (Some t.1) (lookup (same_flow x) ts))
    go true h k = ap (λ (y : Flow). Some (y, t.1)) (sym (same_flow-true x t.0 h))
    go false h k = k

pub shown_take : {V : Type 0} (f : V → Entry) (n : ℕ) (es : List (Flow × V)) → shown f (take n es) ≡ take n (shown f es)
shown_take f zero [] = refl
shown_take f zero (t ∷ ts) = refl
shown_take f (suc n) [] = refl
shown_take f (suc n) (t ∷ ts) = ap (λ (l : List Touch). (t.0, f t.1) ∷ l) (shown_take f n ts)

-- what is put is stored
pub shown_put : {V : Type 0} (f : V → Entry) (x : Flow) (w : V) (capacity : ℕ) (es : List (Flow × V)) → 0 < capacity → shown f (put_in capacity x w es) ≡ stored capacity x (f w) (shown f es)
shown_put f x w zero es h = absurd (omega arith)
shown_put {V} f x w (suc k) es h =
    let d : suc k - 1 ≡ k = omega arith in
    ap (λ (o : Option (Flow × V)). shown f (option_map_or (λ (e : Flow × V). (e.0, w) ∷ remove_entry (same_flow x) es) o ((x, w) ∷ take (suc k - 1) es))) (entry_found x es)
    ∙ ap (λ (j : ℕ). shown f (option_map_or (λ (e : Flow × V). (e.0, w) ∷ remove_entry (same_flow x) es) (option_map (λ v. (x, v)) (lookup (same_flow x) es)) ((x, w) ∷ take j es))) d
    ∙ go (lookup (same_flow x) es)
    ∙ ap (λ (o : Option Entry). put_over o (suc k) x (f w) (shown f es)) (shown_lookup f x es)
  where
    go : (o : Option V) → shown f (option_map_or (λ (e : Flow × V). (e.0, w) ∷ remove_entry (same_flow x) es) (option_map (λ v. (x, v)) o) ((x, w) ∷ take k es)) ≡ put_over (option_map f o) (suc k) x (f w) (shown f es)
    go None = ap (λ (l : List Touch). (x, f w) ∷ l) (shown_take f k es)
    go (Some v) = ap (λ (l : List Touch). (x, f w) ∷ l) (shown_removed f x es)

-- a flow that is there is found
pub some_found : {V : Type 0} (f : V → Entry) (x : Flow) (es : List (Flow × V)) → IsSome (last_touch x (shown f es)) → IsSome (lookup (same_flow x) es)
some_found {V} f x es s = go (lookup (same_flow x) es) (subst (λ (o : Option Entry). IsSome o) (sym (shown_lookup f x es)) s)
  where
    go : (o : Option V) → IsSome (option_map f o) → IsSome o
    go None s = absurd (cc)
    go (Some v) s = refl

pub none_last : {V : Type 0} (f : V → Entry) (x : Flow) (es : List (Flow × V)) → IsNone (lookup (same_flow x) es) → ◌≡◌ {A = Option Entry} None (last_touch x (shown f es))
none_last {V} f x es h = go (lookup (same_flow x) es) h ∙ shown_lookup f x es
  where
    go : (o : Option V) → IsNone o → ◌≡◌ {A = Option Entry} None (option_map f o)
    go None h = refl
    go (Some v) h = absurd (cc)

pub none_when : {V : Type 0} (o : Option V) → (IsSome o → false ≡ true) → IsNone o
none_when None h = refl
none_when (Some v) h = let k : false ≡ true = h refl in absurd (cc)

pub unwraps_weaker : {V : Type 0} (o : Option V) (P Q : V → Type 0) (r : V) → ((w : V) → P w → Q w) → UnwrapsOrElse o P r → UnwrapsOrElse o Q r
unwraps_weaker None P Q r f u = f r u
unwraps_weaker (Some x) P Q r f u = u

-- a slot that has an entry isn't vacant
pub before_full : (s : Slot) (e : Entry) → before_of s ≡ Some e → (s.vacant ≡ false) × (entry_of s ≡ e)
before_full s e h = go s.vacant refl h
  where
    go : (b : Bool) → s.vacant ≡ b → (if b then None else Some (entry_of s)) ≡ Some e → (s.vacant ≡ false) × (entry_of s ≡ e)
    go true v k = absurd (cc)
    go false v k = (v, cc)

-- to touch an entry is to store it at the clock
pub stored_touch : (capacity clock : ℕ) (x : Flow) (e : Entry) (ts : List Touch) → last_touch x ts ≡ Some e → stored capacity x (at_clock clock e) ts ≡ retouched clock x ts
stored_touch capacity clock x e ts h = ap (λ (o : Option Entry). put_over o capacity x (at_clock clock e) ts) h ∙ sym (ap (λ (o : Option Entry). moved clock x o ts) h)

-- what is found isn't vacant
pub full_found : (x : Flow) (es : List (Flow × Slot)) (h : Slot) → AreFull es → Some h ≡ lookup (same_flow x) es → h.vacant ≡ false
full_found x [] h a e = absurd (cc)
full_found x (t ∷ ts) h a e = go (same_flow x t.0) e (full_found x ts h a.1)
  where
    go : (b : Bool) → Some h ≡ cond b (Some t.1) (lookup (same_flow x) ts) → (Some h ≡ lookup (same_flow x) ts → h.vacant ≡ false) → h.vacant ≡ false
    go true e k = let q : t.1 ≡ h = cc in subst (λ (v : Slot). v.vacant ≡ false) q a.0
    go false e k = k e

full_removed : (x : Flow) (es : List (Flow × Slot)) → AreFull es → AreFull (remove_entry (same_flow x) es)
full_removed x [] a = tt
full_removed x (t ∷ ts) a = go (same_flow x t.0) (full_removed x ts a.1)
  where
    go : (b : Bool) → AreFull (remove_entry (same_flow x) ts) → AreFull (cond b ts (t ∷ remove_entry (same_flow x) ts))
    go true k = a.1
    go false k = (a.0, k)

full_take : (n : ℕ) (es : List (Flow × Slot)) → AreFull es → AreFull (take n es)
full_take zero [] a = tt
full_take zero (t ∷ ts) a = tt
full_take (suc n) [] a = tt
full_take (suc n) (t ∷ ts) a = (a.0, full_take n ts a.1)

pub full_put : (capacity : ℕ) (x : Flow) (w : Slot) (es : List (Flow × Slot)) → w.vacant ≡ false → AreFull es → AreFull (put_in capacity x w es)
full_put capacity x w es h a = go (lookup_entry (same_flow x) es)
  where
    go : (o : Option (Flow × Slot)) → AreFull (option_map_or (λ (e : Flow × Slot). (e.0, w) ∷ remove_entry (same_flow x) es) o ((x, w) ∷ take (capacity - 1) es))
    go None = (h, full_take (capacity - 1) es a)
    go (Some e) = (h, full_removed x es a)

pub before_is : (x : Flow) (es : List (Flow × Slot)) (h : Slot) → AreFull es → UnwrapsOrElse (lookup (same_flow x) es) (λ w. w.vacant ≡ true) h → before_of h ≡ last_touch x (shown entry_of es)
before_is x es h a u = go (lookup (same_flow x) es) refl u ∙ shown_lookup entry_of x es
  where
    go : (o : Option Slot) → lookup (same_flow x) es ≡ o → UnwrapsOrElse o (λ w. w.vacant ≡ true) h → before_of h ≡ option_map entry_of o
    go None e u = ap (λ (b : Bool). if b then None else Some (entry_of h)) u
    go (Some v) e u = ap (λ (b : Bool). if b then None else Some (entry_of h)) (full_found x es h a (ap (λ (w : Slot). Some w) u ∙ sym e)) ∙ ap (λ (w : Slot). Some (entry_of w)) u

pub length_shown : {V : Type 0} (f : V → Entry) (es : List (Flow × V)) → length (shown f es) ≡ length es
length_shown f [] = refl
length_shown f (t ∷ ts) = ap suc (length_shown f ts)
