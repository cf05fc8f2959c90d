-- The first fault.
use Rattle.std.proofs.Common.{◌≡◌, ◌≢◌, ℕ, ◌<◌, ◌≤◌, ◌==◌, Bool, true, false, not, refl, sym, ◌∙◌, arith, List, length, nat_lt, Option, Some, None, ⊎_elim, eqb}
use Rattle.std.specs.Prelude.{if◌then◌else◌, is_some}
use Rattle.std.specs.List.{list_all}
use Rattle.std.proofs.lemmas.Bool.Decides.{nat_tests, eqb_tells}
use Rattle.backend_names.specs.NameText.{is_name}
use Rattle.backend_names.specs.Sizes.{is_table_size}
use Rattle.maglev_ffi.specs.Slots.{hash_of_number}
use Rattle.maglev_ffi.specs.Tables.{names_in, are_weights, names_fault, first_fault, AreListed, NamesRefuse, Refuses}
use Rattle.maglev_ffi.specs.declared.fault.Fault.{Fault}
use Rattle.maglev_ffi.specs.declared.fault.Fault.TheVariants.{BadSize, BadHash, BadRoom, BadName, TooMany, BadWeight, DoubleName, Memory}

lt_yes : (a b : ℕ) → a < b → nat_lt a b ≡ true
lt_yes a b h = grind (arith, nat_tests)

lt_no : (a b : ℕ) → b ≤ a → nat_lt a b ≡ false
lt_no a b h = grind (arith, nat_tests)

not_lt : (a b : ℕ) → nat_lt a b ≡ false → b ≤ a
not_lt a b h = grind (arith, nat_tests)

eq_no : (a b : ℕ) → a ≢ b → eqb a b ≡ false
eq_no a b h = ⊎_elim (λ (yes : (eqb a b ≡ true) × (a ≡ b)). absurd (h yes.1)) (λ (no : (eqb a b ≡ false) × (a ≢ b)). no.0) (eqb_tells a b)

abbrev judged : Bool → Bool → Bool → Option Fault
judged a b c = if not a then Some BadName else (if b then Some TooMany else (if not c then Some BadWeight else None))

as_judged : (size : ℕ) (names : List (List ℕ)) (weights : List ℕ) → names_fault size names weights ≡ judged (list_all is_name names) (nat_lt size (length names)) (are_weights (length names) weights)
unfolding names_fault
as_judged size names weights = refl

pub bad_name : (size : ℕ) (names : List (List ℕ)) (weights : List ℕ) → list_all is_name names ≡ false → names_fault size names weights ≡ Some BadName
bad_name size names weights a = as_judged size names weights ∙ rw a refl

pub too_many : (size : ℕ) (names : List (List ℕ)) (weights : List ℕ) → list_all is_name names ≡ true → size < length names → names_fault size names weights ≡ Some TooMany
too_many size names weights a b = as_judged size names weights ∙ rw (a, lt_yes size (length names) b) refl

pub bad_weight : (size : ℕ) (names : List (List ℕ)) (weights : List ℕ) → list_all is_name names ≡ true → length names ≤ size → are_weights (length names) weights ≡ false → names_fault size names weights ≡ Some BadWeight
bad_weight size names weights a b c = as_judged size names weights ∙ rw (a, lt_no size (length names) b, c) refl

pub no_fault : (size : ℕ) (names : List (List ℕ)) (weights : List ℕ) → list_all is_name names ≡ true → length names ≤ size → are_weights (length names) weights ≡ true → names_fault size names weights ≡ None
no_fault size names weights a b c = as_judged size names weights ∙ rw (a, lt_no size (length names) b, c) refl

judged_none : (a b c : Bool) → judged a b c ≡ None → (a ≡ true) × (b ≡ false) × (c ≡ true)
judged_none false b c h = absurd cc
judged_none true true c h = absurd cc
judged_none true false false h = absurd cc
judged_none true false true h = (refl, refl, refl)

-- what holds of names and weights without a fault
pub record AreGood (size : ℕ) (names : List (List ℕ)) (weights : List ℕ) : Type 0 where
  pub named : list_all is_name names ≡ true
  pub few : length names ≤ size
  pub weighed : are_weights (length names) weights ≡ true

pub good : (size : ℕ) (names : List (List ℕ)) (weights : List ℕ) → names_fault size names weights ≡ None → AreGood size names weights
good size names weights h =
    let j = judged_none _ _ _ (sym (as_judged size names weights) ∙ h) in
    record { named = j.0; few = not_lt size (length names) j.1; weighed = j.2 }

abbrev judged_first : Bool → Bool → Bool → Option Fault → Option Fault
judged_first a b c o = if not a then Some BadSize else (if not b then Some BadHash else (if not c then Some BadRoom else o))

as_judged_first : (size hash : ℕ) (text weights : List ℕ) (room : ℕ) → first_fault size hash text weights room ≡ judged_first (is_table_size size) (is_some (hash_of_number hash)) (room == size) (names_fault size (names_in text) weights)
unfolding first_fault
as_judged_first size hash text weights room = refl

pub bad_size : (size hash : ℕ) (text weights : List ℕ) (room : ℕ) → is_table_size size ≡ false → first_fault size hash text weights room ≡ Some BadSize
bad_size size hash text weights room a = as_judged_first size hash text weights room ∙ rw a refl

pub bad_hash : (size hash : ℕ) (text weights : List ℕ) (room : ℕ) → is_table_size size ≡ true → is_some (hash_of_number hash) ≡ false → first_fault size hash text weights room ≡ Some BadHash
bad_hash size hash text weights room a b = as_judged_first size hash text weights room ∙ rw (a, b) refl

pub bad_room : (size hash : ℕ) (text weights : List ℕ) (room : ℕ) → is_table_size size ≡ true → is_some (hash_of_number hash) ≡ true → room ≢ size → first_fault size hash text weights room ≡ Some BadRoom
bad_room size hash text weights room a b c = as_judged_first size hash text weights room ∙ rw (a, b, eq_no room size c) refl

same_yes : (n : ℕ) → eqb n n ≡ true
same_yes n = grind (arith, nat_tests)

pub then_names : (size hash : ℕ) (text weights : List ℕ) (room : ℕ) → AreListed size hash room → first_fault size hash text weights room ≡ names_fault size (names_in text) weights
then_names size hash text weights room l = as_judged_first size hash text weights room ∙ rw (l.size_listed, l.hash_listed, l.fitting, same_yes size) refl

no_double : (a b c : Bool) → judged a b c ≡ Some DoubleName → ⊥
no_double false b c h = absurd cc
no_double true true c h = absurd cc
no_double true false false h = absurd cc
no_double true false true h = absurd cc

-- names and weights with a fault are refused by it
pub refused : (fault : Fault) (size : ℕ) (names : List (List ℕ)) (weights : List ℕ) → names_fault size names weights ≡ Some fault → NamesRefuse fault size names weights
refused BadSize size names weights h = h
refused BadHash size names weights h = h
refused BadRoom size names weights h = h
refused BadName size names weights h = h
refused TooMany size names weights h = h
refused BadWeight size names weights h = h
refused DoubleName size names weights h = absurd (no_double _ _ _ (sym (as_judged size names weights) ∙ h))
refused Memory size names weights h = tt

-- the same of all that is passed
refused_after : (fault : Fault) (size hash : ℕ) (text weights : List ℕ) (room : ℕ) → AreListed size hash room → NamesRefuse fault size (names_in text) weights → Refuses fault size hash text weights room
refused_after BadSize size hash text weights room l h = then_names size hash text weights room l ∙ h
refused_after BadHash size hash text weights room l h = then_names size hash text weights room l ∙ h
refused_after BadRoom size hash text weights room l h = then_names size hash text weights room l ∙ h
refused_after BadName size hash text weights room l h = then_names size hash text weights room l ∙ h
refused_after TooMany size hash text weights room l h = then_names size hash text weights room l ∙ h
refused_after BadWeight size hash text weights room l h = then_names size hash text weights room l ∙ h
refused_after DoubleName size hash text weights room l h = (then_names size hash text weights room l ∙ h.0, h.1)
refused_after Memory size hash text weights room l h = l

-- what is known of names at the size's own name is known of what was passed
pub accepted_after : (size hash : ℕ) (text weights : List ℕ) (room size' : ℕ) (names : List (List ℕ)) → AreListed size hash room
    → size' ≡ size → names ≡ names_in text → names_fault size' names weights ≡ None → first_fault size hash text weights room ≡ None
accepted_after size hash text weights room size' names l es en h = then_names size hash text weights room l ∙ rw (← es, ← en) h

pub refuses_after : (fault : Fault) (size hash : ℕ) (text weights : List ℕ) (room size' : ℕ) (names : List (List ℕ)) → AreListed size hash room
    → size' ≡ size → names ≡ names_in text → NamesRefuse fault size' names weights → Refuses fault size hash text weights room
refuses_after fault size hash text weights room size' names l es en h = refused_after fault size hash text weights room l (rw (← es, ← en) h)
