-- A place is one of the workers.
use Rattle.std.proofs.Common.{◌≡◌, ℕ, ◌+◌, ◌<◌, Bool, true, false, List, [], ◌∷◌, zero, suc, arith}
use Rattle.std.specs.Prelude.{if◌then◌else◌, ◌==◌}
use Rattle.steering.specs.declared.Placed.TheVariants.{Worker}
use Rattle.steering.specs.Steering.{home_of, refuses, ring_from, but, others, first_taker, place_for}
use Rattle.five_tuple.specs.declared.Flow.{Flow}

-- all of these are workers
abbrev pub AllBelow : ℕ → List ℕ → Type 0
AllBelow workers [] = Unit {0}
AllBelow workers (w ∷ ws) = (w < workers) × AllBelow workers ws

ring_below : (workers c k : ℕ) → 0 < workers → AllBelow workers (ring_from workers c k)
ring_below workers c zero some = tt
ring_below workers c (suc k) some = (omega arith, ring_below workers (c + 1) k some)

but_below : (workers home : ℕ) (ws : List ℕ) → AllBelow workers ws → AllBelow workers (but home ws)
but_below workers home [] h = tt
but_below workers home (w ∷ ws) h = go (w == home) (but_below workers home ws h.1)
  where
    go : (b : Bool) → AllBelow workers (but home ws) → AllBelow workers (if b then but home ws else w ∷ but home ws)
    go true k = k
    go false k = (h.0, k)

taker_below : (marks : List Bool) (workers : ℕ) (ws : List ℕ) (w : ℕ) → AllBelow workers ws → first_taker marks ws ≡ Worker w → w < workers
taker_below marks workers [] w h e = absurd (cc)
taker_below marks workers (v ∷ ws) w h e = go (refuses marks v) e (taker_below marks workers ws w h.1)
  where
    go : (b : Bool) → (if b then first_taker marks ws else Worker v) ≡ Worker w → (first_taker marks ws ≡ Worker w → w < workers) → w < workers
    go true d k = k d
    go false d k = let f : v ≡ w = cc in let g : v < workers = h.0 in omega arith

pub place_below : (marks : List Bool) (workers home c w : ℕ) → 0 < workers → home < workers → place_for marks workers home c ≡ Worker w → w < workers
unfolding place_for
place_below marks workers home c w some below e = taker_below marks workers (home ∷ others workers home c) w (below, but_below workers home (ring_from workers c workers) (ring_below workers c workers some)) e

pub home_below : (plain : List ℕ → ℕ) (workers : ℕ) (x : Flow) → 0 < workers → home_of plain workers x < workers
unfolding home_of
home_below plain workers x some = omega arith
