use Rattle.std.proofs.Common.{◌≡◌, ◌≤◌, ℕ, ◌*◌, ◌/◌, ◌-◌, suc, ◌+◌, length, drop, List, ap, sym, ◌∙◌, refl, arith}
use Rattle.std.proofs.lemmas.List.{length-drop, take_all}
use Rattle.connection_table.specs.declared.hasher.KeyedHasher.{KeyedHasher}
use Rattle.connection_table.specs.Hashing.{mixed, mixed_pieces, mixed_rest, written}
use Rattle.connection_table.proofs.hasher.KeyedHasherHasher.write.Goals as goal

pub loop-number-init : goal.loop-number-init
unfolding mixed_pieces
loop-number-init c = refl

pub loop-number-preserved : goal.loop-number-preserved
unfolding mixed_pieces
loop-number-preserved c =
    let bytes : List ℕ = c.args.bytes.now in
    let i : ℕ = c.loop-number.number in
    let whole : length (drop (16 * i) bytes) ≤ length bytes - 16 * i = omega (arith, length-drop (16 * i) bytes) in
    let next : i + 1 ≡ suc i = omega arith in
    c.mix.ensures
    ∙ ap (λ (l : List ℕ). mixed c.loop-number.self l) (take_all (length bytes - 16 * i) (drop (16 * i) bytes) whole)
    ∙ ap (λ (h : KeyedHasher). mixed h (drop (16 * i) bytes)) c.loop-number.invariant
    ∙ ap (λ (n : ℕ). mixed_pieces c.args.self.now bytes n) (sym next)

pub returns : goal.returns
unfolding written
returns c =
    let bytes : List ℕ = c.args.bytes.now in
    let count : ℕ = length bytes / 16 in
    let whole : length (drop (16 * count) bytes) ≤ length bytes - 16 * count = omega (arith, length-drop (16 * count) bytes) in
    let all : c.loop-number.number ≡ count = omega (arith, c.loop-number-test.false, c.loop-number.auto.number-end) in
    c.mix_rest.ensures
    ∙ ap (λ (l : List ℕ). mixed_rest c.loop-number.self l) (take_all (length bytes - 16 * count) (drop (16 * count) bytes) whole)
    ∙ ap (λ (h : KeyedHasher). mixed_rest h (drop (16 * count) bytes)) c.loop-number.invariant
    ∙ ap (λ (n : ℕ). mixed_rest (mixed_pieces c.args.self.now bytes n) (drop (16 * count) bytes)) all
