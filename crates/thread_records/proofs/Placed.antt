-- What was placed on the workers.
use Rattle.std.proofs.Common.{◌≡◌, ℕ, ◌+◌, ◌<◌, Bool, true, false, List, [], ◌∷◌, ◌++◌, length, map, take, suc, zero, refl, sym, ap, ◌∙◌, arith, replicate}
use Rattle.std.specs.Prelude.{◌==◌, if◌then◌else◌}
use Rattle.std.proofs.lemmas.Bool.{eqb-true, eqb-false}
use Rattle.std.proofs.lemmas.List.{length_push, get_or-set_same, get_or-set_other}
use Rattle.steering.specs.Steering.{refuses}
use Rattle.cluster_node.specs.declared.serving.Item.{Item}
use Rattle.cluster_node.specs.Book.{Line, put}
use Rattle.cluster_core.specs.Apart.{puts_on}
use Rattle.thread_records.specs.Journals.{all_placed, placed_on, put_on, no_marks}

pub puts_push : (ls : List Line) (is : List Item) (i : Item) → puts_on ls (is ++ i ∷ []) ≡ put i ∷ puts_on ls is
puts_push ls [] i = refl
puts_push ls (j ∷ is) i = puts_push (put j ∷ ls) is i

pub all_placed_put : (iss : List (List Item)) (w : ℕ) (i : Item) → w < length iss → all_placed (put_on iss w i) ≡ all_placed iss + 1
all_placed_put [] w i h = absurd (omega arith)
all_placed_put (is ∷ iss) zero i h = let e : length (is ++ i ∷ []) ≡ length is + 1 = length_push is i in omega arith
all_placed_put (is ∷ iss) (suc w) i h = let e : all_placed (put_on iss w i) ≡ all_placed iss + 1 = all_placed_put iss w i (omega arith) in omega arith

pub all_placed_take : (iss : List (List Item)) (w : ℕ) → w < length iss → all_placed (take (w + 1) iss) ≡ all_placed (take w iss) + length (placed_on iss w)
all_placed_take [] w h = absurd (omega arith)
all_placed_take (is ∷ iss) zero h = let e : length is + 0 ≡ 0 + length is = omega arith in e
all_placed_take (is ∷ iss) (suc w) h =
    let s : suc w + 1 ≡ suc (w + 1) = omega arith in
    let e : all_placed (take (w + 1) iss) ≡ all_placed (take w iss) + length (placed_on iss w) = all_placed_take iss w (omega arith) in
    let f : length is + all_placed (take (w + 1) iss) ≡ length is + all_placed (take w iss) + length (placed_on iss w) = omega arith in
    ap (λ (n : ℕ). all_placed (take n (is ∷ iss))) s ∙ f

pub all_placed_none : (iss : List (List Item)) → all_placed (map (λ is. []) iss) ≡ 0
all_placed_none [] = refl
all_placed_none (is ∷ iss) = let e : all_placed (map (λ is. []) iss) ≡ 0 = all_placed_none iss in omega arith

pub placed_on_none : (iss : List (List Item)) (w : ℕ) → placed_on (map (λ is. []) iss) w ≡ []
placed_on_none [] w = refl
placed_on_none (is ∷ iss) zero = refl
placed_on_none (is ∷ iss) (suc w) = placed_on_none iss w

-- the lines of each worker after one was given a packet
pub placed_lines : (iss : List (List Item)) (w u : ℕ) (i : Item) → w < length iss → (if w == u then put i ∷ puts_on [] (placed_on iss u) else puts_on [] (placed_on iss u)) ≡ puts_on [] (placed_on (put_on iss w i) u)
placed_lines iss w u i h = go (w == u) refl
  where
    go : (b : Bool) → (w == u) ≡ b → (if b then put i ∷ puts_on [] (placed_on iss u) else puts_on [] (placed_on iss u)) ≡ puts_on [] (placed_on (put_on iss w i) u)
    go true e =
        let s : w ≡ u = eqb-true w u e in
        sym (puts_push [] (placed_on iss u) i)
        ∙ ap (λ (n : ℕ). puts_on [] (placed_on iss n ++ i ∷ [])) (sym s)
        ∙ ap (λ (is : List Item). puts_on [] is) (sym (get_or-set_same iss w (placed_on iss w ++ i ∷ []) [] h))
        ∙ ap (λ (n : ℕ). puts_on [] (placed_on (put_on iss w i) n)) s
    go false e = ap (λ (is : List Item). puts_on [] is) (sym (get_or-set_other iss w u (placed_on iss w ++ i ∷ []) [] (λ s. eqb-false w u e (sym s))))

no_mark : (n w : ℕ) → refuses (replicate n false) w ≡ false
no_mark zero w = refl
no_mark (suc n) zero = refl
no_mark (suc n) (suc w) = no_mark n w

pub none_refuse : (w : ℕ) → refuses no_marks w ≡ false
none_refuse w = no_mark 16 w
