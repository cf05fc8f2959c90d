-- What a `KeyedHasher` computes.
use Rattle.std.specs.Prelude.{ℕ, zero, suc, ◌-◌, ◌*◌, ◌/◌, ◌%◌, ◌^◌, List, length, drop, ◌++◌, ◌==◌, if◌then◌else◌, bit_xor}
use Rattle.std.specs.Prelude.{replicate}
use Rattle.std.specs.Hash.FoldHasher.{folded_multiply}
use Rattle.byteorder.specs.Endian.{little_number}
use Rattle.connection_table.specs.declared.hasher.KeyedHasher.{KeyedHasher}
use Rattle.connection_table.specs.declared.hasher.TheConstants.{MULTIPLIER, PIECE}

-- after the first 16 bytes: two words, each with a part of the key, are multiplied
unfoldable pub mixed : KeyedHasher → List ℕ → KeyedHasher
mixed h bytes = record h { state = folded_multiply (bit_xor (little_number 8 bytes) h.state) (bit_xor (little_number 8 (drop 8 bytes)) h.secret) }

-- after fewer than 16 bytes, to which zeros are added: how many they are counts too
unfoldable pub mixed_rest : KeyedHasher → List ℕ → KeyedHasher
mixed_rest h rest =
    let n = length rest in
    if n == 0 then h else mixed (record h { state = bit_xor h.state n }) (rest ++ replicate (PIECE - n) 0)

-- after the first n pieces of 16 bytes
unfoldable pub mixed_pieces : KeyedHasher → List ℕ → ℕ → KeyedHasher
mixed_pieces h bytes zero = h
mixed_pieces h bytes (suc n) = mixed (mixed_pieces h bytes n) (drop (PIECE * n) bytes)

-- after all bytes
unfoldable pub written : KeyedHasher → List ℕ → KeyedHasher
written h bytes =
    let count = length bytes / PIECE in
    mixed_rest (mixed_pieces h bytes count) (drop (PIECE * count) bytes)

-- the hash of what was written
unfoldable pub finished : KeyedHasher → ℕ
finished h = h.state * MULTIPLIER % 2 ^ 64
