-- What the functions on slots answer.
use Rattle.std.specs.Prelude.{ℕ, ◌%◌, ◌==◌, if◌then◌else◌, List, ◌∷◌, length, Option, Some, None}
use Rattle.hash_laws.specs.declared.any.AnyHash.{AnyHash}
use Rattle.hash_laws.specs.declared.any.AnyHash.TheVariants.{Fnv, Sha256, Sum}
use Rattle.hash_laws.specs.Any.{plain_of}
use Rattle.five_tuple.specs.Flow.{flow_bytes}
use Rattle.five_tuple.specs.declared.Flow.{Flow}
use Rattle.backend_names.specs.Sizes.{is_table_size}
use Rattle.maglev_table.specs.Turns.{differing_slots}

-- the hash that a number names
abbrev pub hash_of_number : ℕ → Option AnyHash
hash_of_number n = if n == 0 then Some Fnv else (if n == 1 then Some Sha256 else (if n == 2 then Some Sum else None))

-- the slot of a flow under the hash that was named, if one was
abbrev pub slot_under : ℕ → Option AnyHash → Flow → ℕ
slot_under size None x = 4294967295
slot_under size (Some hash) x = plain_of hash (102 ∷ flow_bytes x) % size

abbrev pub slot_answer : ℕ → ℕ → Flow → ℕ
slot_answer size hash x = if is_table_size size then slot_under size (hash_of_number hash) x else 4294967295

-- at how many slots two tables differ
abbrev pub differing_answer : List ℕ → List ℕ → ℕ
differing_answer old new = if length old == length new then length (differing_slots old new) else 18446744073709551615
