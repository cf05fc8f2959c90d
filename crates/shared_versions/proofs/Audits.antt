-- One more audit.
use Rattle.std.proofs.Common.{◌≡◌, ◌↔◌, ◌<◌, ◌++◌, ◌∷◌, [], ℕ, Bool, true, false, List, length, refl, arith, rules}
use Rattle.std.specs.Prelude.{Result, Ok, Err, All, IsTrue, IfOk, slice_index_or}
use Rattle.shared_versions.specs.PrivateAudits.{IsGiven}
use Rattle.std.proofs.lemmas.List.Elements.{All-nil, All-cons, All-head, All-tail, All-push}

all_before : {X : Type 0} (P : X → Type 0) (xs : List X) (x : X) → All P (xs ++ x ∷ []) → All P xs
all_before P [] x h = All-nil P
all_before P (y ∷ ys) x h = All-cons P y ys (All-head P y (ys ++ x ∷ []) h) (all_before P ys x (All-tail P y (ys ++ x ∷ []) h))

all_last : {X : Type 0} (P : X → Type 0) (xs : List X) (x : X) → All P (xs ++ x ∷ []) → P x
all_last P [] x h = All-head P x [] h
all_last P (y ∷ ys) x h = all_last P ys x (All-tail P y (ys ++ x ∷ []) h)

-- one that agrees
pub agrees_more : {E : Type 0} (b : Bool) (xs : List (Result Bool E)) (x : Result Bool E) → x ≡ Ok true → IsTrue b ↔ All (λ a. a ≡ Ok true) xs → IsTrue b ↔ All (λ a. a ≡ Ok true) (xs ++ x ∷ [])
agrees_more b xs x e h = (λ t. All-push (λ a. a ≡ Ok true) xs x (h.0 t) e, λ all. h.1 (all_before (λ a. a ≡ Ok true) xs x all))

opposite : {E : Type 0} (x : Result Bool E) → x ≡ Ok false → x ≡ Ok true → ⊥
opposite (Ok false) e f = search rules
opposite (Ok true) e f = search rules
opposite (Err y) e f = search rules

-- one that differs
pub differs_more : {E : Type 0} (xs : List (Result Bool E)) (x : Result Bool E) → x ≡ Ok false → IsTrue false ↔ All (λ a. a ≡ Ok true) (xs ++ x ∷ [])
differs_more xs x e = (λ t. search rules, λ all. absurd (opposite x e (all_last (λ a. a ≡ Ok true) xs x all)))

-- an audit that agrees, of what it is an audit of
by_true : {E : Type 0} (A : Type 0) (r : Result Bool E) → IfOk r (λ b. IsTrue b ↔ A) → r ≡ Ok true → A
by_true A (Ok true) h e = h.0 (search rules)
by_true A (Ok false) h e = absurd (opposite (Ok false) refl e)
by_true A (Err x) h e = search rules

is_true : {E : Type 0} (A : Type 0) (r : Result Bool E) → IfOk r (λ b. IsTrue b ↔ A) → IsGiven r → A → r ≡ Ok true
is_true A (Ok b) h g a = let t : IsTrue b = h.1 a in search rules
is_true A (Err x) h g a = absurd g

-- audits of each of some, and what they say of all
pub agree_of : {X E : Type 0} (T : X → Type 0) (nodes : List X) (audits : List (Result Bool E)) (b : Bool) → length audits ≡ length nodes →
    ((i : ℕ) (a : Result Bool E) (d : X) → i < length nodes → IfOk (slice_index_or audits i a) (λ (one : Bool). IsTrue one ↔ T (slice_index_or nodes i d))) →
    All IsGiven audits → IsTrue b ↔ All (λ a. a ≡ Ok true) audits → IsTrue b ↔ All T nodes
agree_of T [] audits b len each given h = (λ t k d in'. absurd (omega (arith, in')), λ all. h.1 (λ k a in'. absurd (omega (arith, in', len))))
agree_of T (x ∷ xs) audits b len each given h = (
  λ t k d in'. by_true (T (slice_index_or (x ∷ xs) k d)) (slice_index_or audits k (Ok true)) (each k (Ok true) d in') (h.0 t k (Ok true) (omega (arith, in', len))),
  λ all. h.1 (λ k a in'. is_true (T (slice_index_or (x ∷ xs) k x)) (slice_index_or audits k a) (each k a x (omega (arith, in', len))) (given k a in') (all k x (omega (arith, in', len)))),
)

-- the same of what was answered of them together
pub agreed_of : {X E : Type 0} (T : X → Type 0) (nodes : List X) (audits : List (Result Bool E)) (r : Result Bool E) → length audits ≡ length nodes →
    ((i : ℕ) (a : Result Bool E) (d : X) → i < length nodes → IfOk (slice_index_or audits i a) (λ (one : Bool). IsTrue one ↔ T (slice_index_or nodes i d))) →
    IfOk r (λ b. All IsGiven audits) → IfOk r (λ b. IsTrue b ↔ All (λ a. a ≡ Ok true) audits) → IfOk r (λ b. IsTrue b ↔ All T nodes)
agreed_of T nodes audits (Ok b) len each given h = agree_of T nodes audits b len each given h
agreed_of T nodes audits (Err e) len each given h = tt
