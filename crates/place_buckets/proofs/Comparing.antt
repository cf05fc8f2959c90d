-- From the mask of a comparison of several items to the first that is the one sought.
use Rattle.std.proofs.Common.{◌≡◌, ℕ, ◌+◌, ◌-◌, ◌%◌, ◌^◌, ◌≤◌, eqb, cond, not, List, map, length, replicate, sym, ap, ◌∙◌}
use mir.Syntax.{Width}
use mir.Val.{bits, hbits}
use Rattle.std.specs.List.{prefix_len}
use Rattle.std.proofs.lemmas.Bool.{eq-eqb, eqb-true, true≢false}
use Rattle.std.proofs.lemmas.Simd.{length-chunk, bitmask_splat, first_set_mask_l, run_in_chunk_le, run_in_chunk_fails, run_in_chunk_stops}
use lib.Lanes.{chunk, zip2, mask_l, top}
use Rattle.place_buckets.specs.PrivateLanes.{first_set, IsFirst}

-- which of n items from an index on is the first that is y
pub compared : (w : Width) (xs : List ℕ) (i n r y : ℕ) → i + n ≤ length xs → n ≤ 64
    → r ≡ first_set (mask_l (map (top (hbits w)) (zip2 (λ a b. cond (eqb a b) (2 ^ bits w - 1) 0) (chunk i n xs) (replicate n y))) % 2 ^ 64) n
    → IsFirst xs i n y r
compared w xs i n r y room few is =
    let long : length (chunk i n xs) ≡ n = length-chunk i n xs room in
    let mask = bitmask_splat w eqb (chunk i n xs) n y long few in
    let counted : r ≡ prefix_len (λ x. not (eqb x y)) (chunk i n xs) = is ∙ ap (λ (m : ℕ). first_set m n) mask ∙ first_set_mask_l (λ x. eqb x y) (chunk i n xs) n long few in
    record {
      within = run_in_chunk_le (λ x. eqb x y) xs i n r 0 room counted;
      before = λ k low high e. true≢false (sym (eq-eqb _ _ e) ∙ run_in_chunk_fails (λ x. eqb x y) xs i n r 0 room counted k low high);
      here = λ short. eqb-true _ _ (run_in_chunk_stops (λ x. eqb x y) xs i n r 0 room counted short);
    }
