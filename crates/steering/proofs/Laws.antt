-- One worker after another is tried.
use Rattle.std.proofs.Common.{◌≡◌, ℕ, ◌<◌, Bool, true, false, List, [], ◌∷◌, zero, suc, refl, sym, ap, ◌∙◌, arith}
use Rattle.std.specs.Prelude.{if◌then◌else◌}
use Rattle.steering.specs.declared.Placed.TheVariants.{Worker}
use Rattle.steering.specs.Steering.{Steering, others, refuses, first_taker, place_for, cursor_after, next_of, rest_of}
use Rattle.steering.specs.Laws.{after_refusals, named}

module _ (s : Steering) (home : ℕ) (marks : List Bool) where
  abbrev Refuse : ℕ → Type 0
  Refuse n = (k w : ℕ) → k < n → named k home s ≡ Worker w → refuses marks w ≡ true

  abbrev Way : List ℕ
  Way = home ∷ others s.workers home s.cursor

  skips : (ws : List ℕ) → ((w : ℕ) → next_of ws ≡ Worker w → refuses marks w ≡ true) → first_taker marks ws ≡ first_taker marks (rest_of ws)
  skips [] h = refl
  skips (w ∷ ws) h = ap (λ (b : Bool). if b then first_taker marks ws else Worker w) (h w refl)

  rest_is : (n : ℕ) → Refuse (suc n) → first_taker marks Way ≡ first_taker marks (after_refusals n home s).left
  rest_is zero h = ap (λ (b : Bool). if b then first_taker marks (others s.workers home s.cursor) else Worker home) (h 0 home (omega arith) refl)
  rest_is (suc n) h =
      rest_is n (λ k w lt e. h k w (omega arith) e)
      ∙ skips (after_refusals n home s).left (λ w e. h (suc n) w (omega arith) e)

  takes : (ws : List ℕ) → ((w : ℕ) → next_of ws ≡ Worker w → refuses marks w ≡ false) → first_taker marks ws ≡ next_of ws
  takes [] h = refl
  takes (w ∷ ws) h = ap (λ (b : Bool). if b then first_taker marks ws else Worker w) (h w refl)

  pub placed_at : (n : ℕ) → Refuse n → ((w : ℕ) → named n home s ≡ Worker w → refuses marks w ≡ false) → place_for marks s.workers home s.cursor ≡ named n home s
  unfolding place_for
  placed_at zero h free = ap (λ (b : Bool). if b then first_taker marks (others s.workers home s.cursor) else Worker home) (free home refl)
  placed_at (suc n) h free = rest_is n h ∙ takes (after_refusals n home s).left free

  moved : (n : ℕ) → ((after_refusals (suc n) home s).workers ≡ s.workers) × ((after_refusals (suc n) home s).at_home ≡ false) × ((after_refusals (suc n) home s).cursor ≡ cursor_after true s.workers s.cursor)
  moved zero = (refl, refl, refl)
  moved (suc n) =
      let m = moved n in
      (m.0, refl, ap (λ (b : Bool). cursor_after b (after_refusals (suc n) home s).workers (after_refusals (suc n) home s).cursor) m.1 ∙ m.2)

  pub cursor_at : (n : ℕ) → Refuse n → ((w : ℕ) → named n home s ≡ Worker w → refuses marks w ≡ false) → (after_refusals n home s).cursor ≡ cursor_after (refuses marks home) s.workers s.cursor
  cursor_at zero h free = ap (λ (b : Bool). cursor_after b s.workers s.cursor) (sym (free home refl))
  cursor_at (suc n) h free = (moved n).2 ∙ ap (λ (b : Bool). cursor_after b s.workers s.cursor) (sym (h 0 home (omega arith) refl))
