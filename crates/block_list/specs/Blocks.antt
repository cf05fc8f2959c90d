-- What a contract sees of a list in blocks.
use Rattle.std.specs.Prelude.{ℕ, List, slice_set, refl}
use Rattle.std.specs.Coded.{Coded, code_by, coded×, coded_ℕ, coded_list}

-- the items in their order, and how many more may be pushed before memory is asked for
pub record Blocks (T : Type 0) : Type 0 where
  pub items : List T
  pub room : ℕ

-- a list is stored as the pair of its fields
abbrev pub blocks_code : {T : Type 0} → Coded T → Coded (Blocks T)
blocks_code {T} code =
    code_by (List T × ℕ) (coded× (coded_list code) coded_ℕ) (λ b. (b.items, b.room))
    (λ p. record { items = p.0; room = p.1 }) (λ _. refl)

-- the list after an item is written over
abbrev pub with_item : {T : Type 0} → Blocks T → ℕ → T → Blocks T
with_item b at item = record b { items = slice_set b.items at item }
