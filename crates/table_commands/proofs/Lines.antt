-- One more line.
use Rattle.std.proofs.Common.{◌≡◌, ℕ, ◌+◌, refl, sym, ◌∙◌, ap, arith, List, [], ◌∷◌, ◌++◌, map, length, get_or}
use Rattle.std.specs.List.{flat_map, range_with_len}
use Rattle.std.proofs.lemmas.List.{flat_map_more}
use Rattle.std.proofs.lemmas.List.FromFn.{map-range_with_len_more}
use Rattle.maglev_table.specs.Turns.{all_slots_of}
use Rattle.std.specs.Prelude.{Some}
use Rattle.json_lines.specs.declared.forms.Form.{Form}
use Rattle.table_commands.specs.Text.{slot_line_as, count_line_as, head_line_as, name_at, slot_lines_as, counts_text_as, table_text_as}

map_same : (xs : List ℕ) → map (λ x. x) xs ≡ xs
map_same [] = refl
map_same (x ∷ xs) = ap (λ (ys : List ℕ). x ∷ ys) (map_same xs)

range_more : (n : ℕ) → range_with_len 0 (n + 1) ≡ range_with_len 0 n ++ n ∷ []
range_more n = sym (map_same (range_with_len 0 (n + 1))) ∙ map-range_with_len_more (λ x. x) 0 n n (omega arith) ∙ ap (λ (xs : List ℕ). xs ++ n ∷ []) (map_same (range_with_len 0 n))

pub lines_more : (f : ℕ → List ℕ) (bs : List ℕ) (n : ℕ) → (bs ++ flat_map f (range_with_len 0 n)) ++ f n ≡ bs ++ flat_map f (range_with_len 0 (n + 1))
lines_more f bs n = flat_map_more f bs (range_with_len 0 n) n ∙ ap (λ (xs : List ℕ). bs ++ flat_map f xs) (sym (range_more n))

pub slot_lines_more : (form : Form) (names : List (List ℕ)) (owners bs new old : List ℕ) (slot : ℕ) (name : List ℕ) → new ≡ old ++ slot_line_as form slot (Some name)
    → old ≡ bs ++ slot_lines_as form names owners slot → name ≡ name_at names owners slot → new ≡ bs ++ slot_lines_as form names owners (slot + 1)
slot_lines_more form names owners bs new old slot name made held called =
    made ∙ ap (λ (xs : List ℕ). xs ++ slot_line_as form slot (Some name)) held
    ∙ ap (λ (n : List ℕ). (bs ++ slot_lines_as form names owners slot) ++ slot_line_as form slot (Some n)) called
    ∙ lines_more (λ k. slot_line_as form k (Some (name_at names owners k))) bs slot

pub counts_more : (form : Form) (names : List (List ℕ)) (counts bs new old : List ℕ) (who count : ℕ) (name : List ℕ) → new ≡ old ++ count_line_as form name count
    → old ≡ bs ++ counts_text_as form names counts who → count ≡ get_or counts who 0 → name ≡ get_or names who [] → new ≡ bs ++ counts_text_as form names counts (who + 1)
counts_more form names counts bs new old who count name made held is called =
    made ∙ ap (λ (xs : List ℕ). xs ++ count_line_as form name count) held
    ∙ ap (λ (n : List ℕ). (bs ++ counts_text_as form names counts who) ++ count_line_as form n count) called
    ∙ ap (λ (n : ℕ). (bs ++ counts_text_as form names counts who) ++ count_line_as form (get_or names who []) n) is
    ∙ lines_more (λ k. count_line_as form (get_or names k []) (get_or counts k 0)) bs who

pub whole_text : (form : Form) (names : List (List ℕ)) (owners counts t1 t2 t3 : List ℕ) (size slots n : ℕ) → t1 ≡ head_line_as form size n → t2 ≡ t1 ++ slot_lines_as form names owners slots
    → t3 ≡ t2 ++ counts_text_as form names counts n → n ≡ length names → slots ≡ length owners → counts ≡ all_slots_of n owners → t3 ≡ table_text_as form size names owners
unfolding table_text_as
whole_text form names owners counts t1 t2 t3 size slots n a b c en es ec =
    c ∙ ap (λ (xs : List ℕ). xs ++ counts_text_as form names counts n) (b ∙ ap (λ (xs : List ℕ). xs ++ slot_lines_as form names owners slots) a)
    ∙ ap (λ (xs : List ℕ). (head_line_as form size n ++ slot_lines_as form names owners slots) ++ counts_text_as form names xs n) ec
    ∙ ap (λ (k : ℕ). (head_line_as form size n ++ slot_lines_as form names owners k) ++ counts_text_as form names (all_slots_of n owners) n) es
    ∙ ap (λ (k : ℕ). (head_line_as form size k ++ slot_lines_as form names owners (length owners)) ++ counts_text_as form names (all_slots_of k owners) k) en
