-- A number that is read is in its range.
use Rattle.std.proofs.Common.{◌≡◌, ℕ, ◌≤◌, ◌&&◌, ℤ, pos, negsuc, Bool, true, false, cond, Option, Some, None, option_map, option_and_then, refl, ap}
use Rattle.std.specs.Prelude.{nat_le}
use Rattle.std.proofs.lemmas.Bool.{and_parts, leb-true}
use Rattle.toml.specs.Data.{Data, as_integer}
use Rattle.scenario_keys.specs.Lookups.{natural_in, natural_of, given_or}

kept : (low high m n : ℕ) (b : Bool) → (nat_le low m && nat_le m high) ≡ b → cond b (Some m) None ≡ Some n → n ≤ high
kept low high m n true e h =
    let same : m ≡ n = cc in
    let below : m ≤ high = leb-true m high (and_parts (nat_le low m) (nat_le m high) e).1 in
    rw (← same) below
kept low high m n false e h = absurd cc

of_integer : (low high n : ℕ) (z : ℤ) → natural_in low high z ≡ Some n → n ≤ high
of_integer low high n (pos m) h = kept low high m n (nat_le low m && nat_le m high) refl h
of_integer low high n (negsuc m) h = absurd cc

of_maybe : (low high n : ℕ) (o : Option ℤ) → option_and_then (natural_in low high) o ≡ Some n → n ≤ high
of_maybe low high n None h = absurd cc
of_maybe low high n (Some z) h = of_integer low high n z h

some_number : (low high n : ℕ) (o : Option ℕ) → ((m : ℕ) → o ≡ Some m → m ≤ high) → option_map (λ (m : ℕ). Some m) o ≡ Some (Some n) → n ≤ high
some_number low high n None bound h = absurd cc
some_number low high n (Some m) bound h = bound n (let e : m ≡ n = cc in ap Some e)

-- a number that may be missing
pub number_if_bound : (low high n : ℕ) (o : Option Data) → given_or None (λ d. option_map (λ m. Some m) (natural_of low high d)) o ≡ Some (Some n) → n ≤ high
number_if_bound low high n None h = absurd cc
number_if_bound low high n (Some d) h = some_number low high n (natural_of low high d) (λ m e. of_maybe low high m (as_integer d) e) h
