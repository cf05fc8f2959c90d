-- What a worker keeps of the versions that it used.
use Rattle.std.proofs.Common.{◌≡◌, ℕ, ◌+◌, ◌<◌, ◌≤◌, true, nat_eq, List, [], ◌∷◌, ◌++◌, length, take, get_or, Option, Some, None, Contains, ap, sym, subst, refl, arith}
use Rattle.std.specs.Option.{option_eq}
use Rattle.std.proofs.lemmas.Bool.{eqb-true, eq-eqb}
use Rattle.std.specs.Prelude.{All, IfSome}
use Rattle.std.proofs.lemmas.List.{take_all}
use Rattle.std.proofs.lemmas.List.Elements.{All-more, Contains-append_right}
use Rattle.selection.specs.Readied.{Readied}
use Rattle.forwarder.specs.Serving.{Pick}
use Rattle.handled_list.specs.declared.handled.Handled.{Handled}
use Rattle.thread_records.specs.Sources.{MadeOf, IsMadeOf}
use Rattle.thread_records.specs.Workers.{Limits, Working, limits_of}
use Rattle.thread_records.specs.Works.{working_view, Worked}

-- what a record keeps by its type
abbrev pub Keeps : {S A : Type 0} → (A → Readied S) → (S → ℕ → Pick) → List (MadeOf S) → Working → List Handled → Limits → Option A → Type 0
Keeps value pick_of made worker handled limits current = Worked pick_of (working_view made worker handled) × (limits_of worker.forwarding ≡ limits) × IfSome current (λ p. (m : MadeOf _) × Contains made m × IsMadeOf (value p) m)

pub keeps_same : {S A : Type 0} (value : A → Readied S) (pick_of : S → ℕ → Pick) (made more : List (MadeOf S)) (worker after : Working) (handled after_handled : List Handled) (limits : Limits) (current : Option A)
    → more ≡ made → after ≡ worker → after_handled ≡ handled → Keeps value pick_of made worker handled limits current → Keeps value pick_of more after after_handled limits current
keeps_same {S} value pick_of made more worker after handled after_handled limits current a b d k =
    subst (λ (l : List (MadeOf S)). Keeps value pick_of l after after_handled limits current) (sym a)
    (subst (λ (w : Working). Keeps value pick_of made w after_handled limits current) (sym b)
    (subst (λ (hs : List Handled). Keeps value pick_of made worker hs limits current) (sym d) k))

-- two limits are one where they are equal
pub one_limit : (a b : Option ℕ) → option_eq nat_eq a b ≡ true → a ≡ b
one_limit None None h = refl
one_limit None (Some y) h = absurd (cc)
one_limit (Some x) None h = absurd (cc)
one_limit (Some x) (Some y) h = ap (λ (n : ℕ). Some n) (eqb-true x y h)

pub same_limit : (a b : Option ℕ) → a ≡ b → option_eq nat_eq a b ≡ true
same_limit None b h = subst (λ (o : Option ℕ). option_eq nat_eq None o ≡ true) h refl
same_limit (Some x) b h = subst (λ (o : Option ℕ). option_eq nat_eq (Some x) o ≡ true) h (eq-eqb x x refl)

-- the last of a list is in it
pub last_in : {X : Type 0} (xs ys : List X) (x : X) → ys ≡ xs ++ x ∷ [] → Contains ys x
last_in {X} xs ys x e = subst (λ (l : List X). Contains l x) (sym e) (Contains-append_right xs (x ∷ []) x (0, omega arith, refl))

-- one more of a list, and all of it
pub all_step : {X : Type 0} (P : X → Type 0) (xs : List X) (i : ℕ) (x : X) → i < length xs → x ≡ get_or xs i x → All P (take i xs) → P x → All P (take (i + 1) xs)
all_step P xs i x lt is had p = All-more P xs i x lt had (subst P is p)

pub all_there : {X : Type 0} (P : X → Type 0) (xs : List X) (i : ℕ) → length xs ≤ i → All P (take i xs) → All P xs
all_there P xs i le had = subst (λ l. All P l) (take_all i xs le) had

pub one_of_all : {X : Type 0} (P : X → Type 0) (xs : List X) (i : ℕ) (x : X) → i < length xs → x ≡ get_or xs i x → All P xs → P x
one_of_all P xs i x lt is all = subst P (sym is) (all i x lt)
