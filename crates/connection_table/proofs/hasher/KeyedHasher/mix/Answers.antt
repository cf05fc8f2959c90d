use Rattle.std.proofs.Common.{◌≡◌, ◌≤◌, ◌-◌, arith, ℕ, ap, ◌∙◌, List, length, drop, bit_xor}
use Rattle.std.specs.Hash.FoldHasher.{folded_multiply}
use Rattle.std.proofs.lemmas.List.{length-drop, take_all}
use Rattle.byteorder.specs.Endian.{little_number}
use Rattle.connection_table.specs.declared.hasher.KeyedHasher.{KeyedHasher}
use Rattle.connection_table.specs.Hashing.{mixed}
use Rattle.connection_table.proofs.hasher.KeyedHasher.mix.Goals as goal

pub returns : goal.returns
unfolding mixed
returns c =
    let bytes : List ℕ = c.args.bytes.now in
    let h : KeyedHasher = c.args.self.now in
    let whole : length (drop 8 bytes) ≤ length bytes - 8 = omega (arith, length-drop 8 bytes) in
    let second : c.read_u64-second.result ≡ little_number 8 (drop 8 bytes) = c.read_u64-second.ensures ∙ ap (λ (l : List ℕ). little_number 8 l) (take_all (length bytes - 8) (drop 8 bytes) whole) in
    ap (λ (n : ℕ). record h { state = n })
    (c.folded_multiply-self.ensures
    ∙ ap (λ (n : ℕ). folded_multiply (bit_xor n h.state) (bit_xor c.read_u64-second.result h.secret)) c.read_u64-first.ensures
    ∙ ap (λ (n : ℕ). folded_multiply (bit_xor (little_number 8 bytes) h.state) (bit_xor n h.secret)) second)
