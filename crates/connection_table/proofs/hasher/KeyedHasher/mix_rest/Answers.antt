use Rattle.std.proofs.Common.{rules, ◌≡◌, ◌-◌, ℕ, length, drop, ap, sym, ◌∙◌, ◌++◌, List, Bool, false}
use Rattle.std.specs.Prelude.{replicate, bit_xor, ◌==◌, if◌then◌else◌}
use Rattle.std.proofs.lemmas.List.{drop-replicate}
use Rattle.connection_table.specs.declared.hasher.KeyedHasher.{KeyedHasher}
use Rattle.connection_table.specs.Hashing.{mixed, mixed_rest}
use Rattle.connection_table.proofs.hasher.KeyedHasher.mix_rest.Goals as goal

pub returns-then-is_empty : goal.returns-then-is_empty
unfolding mixed_rest
returns-then-is_empty c = search rules

pub returns : goal.returns
unfolding mixed_rest
returns c =
    let rest : List ℕ = c.args.rest.now in
    let h : KeyedHasher = c.args.self.now in
    let n : ℕ = length rest in
    let some : (n == 0) ≡ false = search rules in
    let entered : KeyedHasher = record h { state = bit_xor h.state n } in
    let piece : c.copy_from_slice.new.self ++ drop n (replicate 16 0) ≡ rest ++ replicate (16 - n) 0 =
    ap (λ (l : List ℕ). l ++ drop n (replicate 16 0)) c.copy_from_slice.ensures.after ∙ ap (λ (l : List ℕ). rest ++ l) (drop-replicate n 16 0) in
    c.mix.ensures
    ∙ ap (λ (l : List ℕ). mixed entered l) piece
    ∙ ap (λ (b : Bool). if b then h else mixed entered (rest ++ replicate (16 - n) 0)) (sym some)
