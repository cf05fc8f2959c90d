-- What the journal's functions write.
use Rattle.std.proofs.Common.{◌≡◌, ℕ, ◌<◌, ◌≤◌, Bool, true, false, List, [], ◌∷◌, ◌++◌, map, length, set, get_or, Result, Ok, Err, refl, sym, ap, ◌∙◌, subst, zero, suc, arith, ◌+◌}
use Rattle.std.specs.Prelude.{OnOk}
use Rattle.std.proofs.lemmas.List.{map-set, get_or-map, length-map}
use Rattle.steering.specs.Steering.{refuses}
use Rattle.cluster_node.specs.declared.serving.Item.{Item}
use Rattle.thread_records.specs.Journals.{placed_on, put_on}

pub on_ok : {A E : Type 0} {P Q : Type 0} (r : Result A E) → (P → Q) → OnOk r P → OnOk r Q
on_ok (Ok x) f p = f p
on_ok (Err e) f p = p

-- one list of those that a list of records has, with one more element
pub put_on_set : {V : Type 0} (items : V → List Item) (vs : List V) (w : ℕ) (old new : V) (i : Item) → w < length vs → old ≡ get_or vs w old → items new ≡ items old ++ i ∷ [] → map items (set vs w new) ≡ put_on (map items vs) w i
put_on_set items vs w old new i h is more =
    map-set items vs w new
    ∙ ap (λ (l : List Item). set (map items vs) w l) (more ∙ ap (λ (l : List Item). l ++ i ∷ []) (ap items is ∙ sym (get_or-map items vs w old [] h)))

abbrev pub Due : Bool → Bool → List Bool → ℕ → List (List Item) → Type 0
Due early was marks ring iss = early ≡ false → (was ≡ false) × ((w : ℕ) → refuses marks w ≡ true → ring ≤ length (placed_on iss w))

pub due_by : (early was : Bool) (marks : List Bool) (ring : ℕ) {iss jss : List (List Item)} → iss ≡ jss → Due early was marks ring iss → Due early was marks ring jss
due_by early was marks ring e d = subst (λ (l : List (List Item)). Due early was marks ring l) e d

-- the first of these lists emptied
abbrev pub cleared : ℕ → List (List Item) → List (List Item)
cleared zero iss = iss
cleared (suc n) [] = []
cleared (suc n) (is ∷ iss) = [] ∷ cleared n iss

cleared_more : (iss : List (List Item)) (n : ℕ) → n < length iss → set (cleared n iss) n [] ≡ cleared (suc n) iss
cleared_more [] n h = absurd (omega arith)
cleared_more (is ∷ iss) zero h = refl
cleared_more (is ∷ iss) (suc n) h = ap (λ (l : List (List Item)). [] ∷ l) (cleared_more iss n (omega arith))

pub cleared_all : (iss : List (List Item)) (n : ℕ) → length iss ≤ n → cleared n iss ≡ map (λ is. []) iss
cleared_all [] zero h = refl
cleared_all [] (suc n) h = refl
cleared_all (is ∷ iss) zero h = absurd (omega arith)
cleared_all (is ∷ iss) (suc n) h = ap (λ (l : List (List Item)). [] ∷ l) (cleared_all iss n (omega arith))

pub clear_step : {V : Type 0} (items : V → List Item) (vs start : List V) (n : ℕ) (new : V) → n < length start → items new ≡ [] → map items vs ≡ cleared n (map items start) → map items (set vs n new) ≡ cleared (n + 1) (map items start)
clear_step items vs start n new h none so_far =
    let long : length (map items start) ≡ length start = length-map start items in
    let one : suc n ≡ n + 1 = omega arith in
    map-set items vs n new
    ∙ ap (λ (l : List Item). set (map items vs) n l) none
    ∙ ap (λ (l : List (List Item)). set l n []) so_far
    ∙ cleared_more (map items start) n (omega arith)
    ∙ ap (λ (k : ℕ). cleared k (map items start)) one
