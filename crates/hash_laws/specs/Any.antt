-- The plain hash of each listed hash, and the word that names it.
use Rattle.std.specs.Prelude.{ℕ, List, Option, Some, None, codes, if◌then◌else◌}
use Rattle.std.specs.Str.{bytes_eq}
use Rattle.hash_laws.specs.Plain.{fnv, sha256_head, byte_sum}
use Rattle.hash_laws.specs.declared.any.AnyHash.{AnyHash}
use Rattle.hash_laws.specs.declared.any.AnyHash.TheVariants.{Fnv, Sha256, Sum}

-- the plain hash of a listed hash
abbrev pub plain_of : AnyHash → List ℕ → ℕ
plain_of Fnv message = fnv message
plain_of Sha256 message = sha256_head message
plain_of Sum message = byte_sum message

-- the hash that a word names
abbrev pub hash_of_word : List ℕ → Option AnyHash
hash_of_word word =
    if bytes_eq word (codes "fnv") then Some Fnv
    else (if bytes_eq word (codes "sha256") then Some Sha256
    else (if bytes_eq word (codes "sum") then Some Sum else None))
