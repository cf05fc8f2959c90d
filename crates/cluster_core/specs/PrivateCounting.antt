-- How outcomes are counted: by their kinds, in one pass.
use Rattle.std.specs.Prelude.{◌≡◌, ℕ, ◌+◌, ◌<◌, ◌^◌, List, [], ◌∷◌, length, replicate, get_or, slice_set, sum}
use Rattle.cluster_node.specs.declared.outcomes.Outcome.{Outcome}
use Rattle.cluster_node.specs.declared.outcomes.Outcome.TheVariants.{Installed, Placed, Forward, Dropped, Restarted, Refused}
use Rattle.cluster_core.specs.declared.counts.Totals.{Totals}
use Rattle.cluster_core.specs.OutcomeCounts.{number, is_arrival, is_forward, is_refused, lost_all, how_many, drop_counts}
use Rattle.cluster_core.specs.Totals.{came_all, went_all}

-- drops are distinguished by their causes
abbrev pub kind : Outcome → ℕ
kind Installed = 0
kind (Placed w f) = 14
kind (Forward n w k x b v) = 15
kind (Dropped k c) = number c
kind (Restarted l) = 16
kind (Refused r) = 17

abbrev pub bumped : ℕ → List ℕ → List ℕ
bumped k ns = slice_set ns k (get_or ns k 0 + 1)

-- the counts after these outcomes
abbrev pub bumped_all : List Outcome → List ℕ → List ℕ
bumped_all [] ns = ns
bumped_all (o ∷ os) ns = bumped_all os (bumped (kind o) ns)

abbrev pub zeros : List ℕ
zeros = replicate 18 0

-- with the rest, what was counted so far makes all
pub record Leads (rest all : List Outcome) (ns : List ℕ) (r l : ℕ) : Type 0 where
  pub size : length ns ≡ 18
  pub kinds : bumped_all rest ns ≡ bumped_all all zeros
  pub received : r + how_many (λ o. is_arrival o) rest ≡ how_many (λ o. is_arrival o) all
  pub lost : l + lost_all rest ≡ lost_all all

-- the counts of all fit
pub record Fits (all : List Outcome) : Type 0 where
  pub few : length all < 2 ^ 64
  pub lost : lost_all all < 2 ^ 64

-- the totals of a list of outcomes
pub record Totalled (t : Totals) (os : List Outcome) : Type 0 where
  pub received : t.received ≡ how_many (λ o. is_arrival o) os
  pub forwarded : t.forwarded ≡ how_many (λ o. is_forward o) os
  pub drops : t.dropped ≡ drop_counts os
  pub waiting : t.waiting + went_all os ≡ came_all os
  pub law : t.received ≡ t.forwarded + (sum t.dropped + t.waiting)
  pub refused : t.refused ≡ how_many (λ o. is_refused o) os
