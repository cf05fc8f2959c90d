-- What the fields of a name represent.
use Rattle.std.specs.Prelude.{◌≡◌, ℕ, ◌≤◌, ◌-◌, ◌++◌, true, List, length, take, drop, replicate, refl}
use Rattle.std.proofs.Common.{arith, take-append-drop}
use Rattle.std.proofs.lemmas.List.{length-take-le}
use Rattle.backend_names.specs.NameText.{is_name}
use Rattle.backend_names.specs.declared.name.Name.TheInside.{Inside}

abbrev pub name_of : Inside → List ℕ
name_of a = take a.len a.bytes

-- a name, with zeros after it
pub record IsNameField (a : Inside) : Type 0 where
  pub length : length a.bytes ≡ 32
  pub fits : a.len ≤ 32
  pub rest : drop a.len a.bytes ≡ replicate (32 - a.len) 0
  pub named : is_name (take a.len a.bytes) ≡ true

abbrev pub fields : List ℕ → ℕ → Inside
fields bytes n = record { bytes = bytes; len = n }

abbrev pub fields_of : List ℕ → Inside
fields_of s = fields (s ++ replicate (32 - length s) 0) (length s)

pub fields_of-name_of : (a : Inside) → IsNameField a → fields_of (name_of a) ≡ a
fields_of-name_of a h =
    let fits : a.len ≤ length a.bytes = omega (arith, h) in
    let e : length (take a.len a.bytes) ≡ a.len = length-take-le a.len a.bytes fits in
    rw (e, ← h.rest, take-append-drop) refl
