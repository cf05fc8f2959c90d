-- What was received was forwarded, dropped or waits.
use Rattle.std.proofs.Common.{◌≡◌, ℕ, ◌+◌, ◌-◌, ◌≤◌, Bool, true, false, List, [], ◌∷◌, length, suc, refl, arith}
use Rattle.std.specs.Prelude.{◌==◌, if◌then◌else◌}
use Rattle.cluster_node.specs.declared.outcomes.Outcome.{Outcome}
use Rattle.cluster_node.specs.declared.outcomes.Outcome.TheVariants.{Installed, Placed, Forward, Dropped, Restarted, Refused}
use Rattle.cluster_node.specs.declared.outcomes.Cause.{Cause}
use Rattle.cluster_node.specs.declared.outcomes.Cause.TheVariants.{NotIpv4, Truncated, BadHeader, BadChecksum, Fragment, NotTcpUdp, BadTransport, TooLarge, NoService, NoBackend, NoVersion, RingsFull, LostAtRestart}
use Rattle.cluster_core.specs.Totals.{came_all, went_all}
use Rattle.std.specs.List.{sum}
use Rattle.cluster_core.specs.OutcomeCounts.{number, is_arrival, is_forward, lost_all, how_many, drops_all, dropped, drop_counts, is_placed}

abbrev pub Balanced : List Outcome → Type 0
Balanced os = how_many (λ o. is_arrival o) os + went_all os ≡ came_all os + (how_many (λ o. is_forward o) os + (dropped os + lost_all os))

balanced_drop : (k : ℕ) (c : Cause) (os : List Outcome) → Balanced os → Balanced (Dropped k c ∷ os)
balanced_drop k NotIpv4 os h = omega arith
balanced_drop k Truncated os h = omega arith
balanced_drop k BadHeader os h = omega arith
balanced_drop k BadChecksum os h = omega arith
balanced_drop k Fragment os h = omega arith
balanced_drop k NotTcpUdp os h = omega arith
balanced_drop k BadTransport os h = omega arith
balanced_drop k TooLarge os h = omega arith
balanced_drop k NoService os h = omega arith
balanced_drop k NoBackend os h = omega arith
balanced_drop k NoVersion os h = omega arith
balanced_drop k RingsFull os h = omega arith
balanced_drop k LostAtRestart os h = omega arith

pub balanced : (os : List Outcome) → Balanced os
balanced [] = refl
balanced (Installed ∷ os) = let h : Balanced os = balanced os in omega arith
balanced (Placed w f ∷ os) = let h : Balanced os = balanced os in omega arith
balanced (Forward n w k x b v ∷ os) = let h : Balanced os = balanced os in omega arith
balanced (Dropped k c ∷ os) = balanced_drop k c os (balanced os)
balanced (Restarted l ∷ os) = let h : Balanced os = balanced os in omega arith
balanced (Refused r ∷ os) = let h : Balanced os = balanced os in omega arith

-- the law of totals
pub all_told : (os : List Outcome) → went_all os ≤ came_all os → how_many (λ o. is_arrival o) os ≡ how_many (λ o. is_forward o) os + ((dropped os + lost_all os) + (came_all os - went_all os))
all_told os h = let b : Balanced os = balanced os in omega arith

placed_came : (os : List Outcome) → how_many (λ o. is_placed o) os ≡ came_all os
placed_came [] = refl
placed_came (Installed ∷ os) = let h : how_many (λ o. is_placed o) os ≡ came_all os = placed_came os in omega arith
placed_came (Placed w f ∷ os) = let h : how_many (λ o. is_placed o) os ≡ came_all os = placed_came os in omega arith
placed_came (Forward n w k x b v ∷ os) = let h : how_many (λ o. is_placed o) os ≡ came_all os = placed_came os in omega arith
placed_came (Dropped k c ∷ os) = let h : how_many (λ o. is_placed o) os ≡ came_all os = placed_came os in omega arith
placed_came (Restarted l ∷ os) = let h : how_many (λ o. is_placed o) os ≡ came_all os = placed_came os in omega arith
placed_came (Refused r ∷ os) = let h : how_many (λ o. is_placed o) os ≡ came_all os = placed_came os in omega arith

abbrev pub Went : List Outcome → Type 0
Went os = went_all os ≡ how_many (λ o. is_forward o) os + (drops_all 9 os + (drops_all 10 os + lost_all os))

went_drop : (k : ℕ) (c : Cause) (os : List Outcome) → Went os → Went (Dropped k c ∷ os)
went_drop k NotIpv4 os h = omega arith
went_drop k Truncated os h = omega arith
went_drop k BadHeader os h = omega arith
went_drop k BadChecksum os h = omega arith
went_drop k Fragment os h = omega arith
went_drop k NotTcpUdp os h = omega arith
went_drop k BadTransport os h = omega arith
went_drop k TooLarge os h = omega arith
went_drop k NoService os h = omega arith
went_drop k NoBackend os h = omega arith
went_drop k NoVersion os h = omega arith
went_drop k RingsFull os h = omega arith
went_drop k LostAtRestart os h = omega arith

went_is : (os : List Outcome) → Went os
went_is [] = refl
went_is (Installed ∷ os) = let h : Went os = went_is os in omega arith
went_is (Placed w f ∷ os) = let h : Went os = went_is os in omega arith
went_is (Forward n w k x b v ∷ os) = let h : Went os = went_is os in omega arith
went_is (Dropped k c ∷ os) = went_drop k c os (went_is os)
went_is (Restarted l ∷ os) = let h : Went os = went_is os in omega arith
went_is (Refused r ∷ os) = let h : Went os = went_is os in omega arith

pub many_le : (p : Outcome → Bool) (os : List Outcome) → how_many p os ≤ length os
many_le p [] = omega arith
many_le p (o ∷ os) = go (p o) (many_le p os)
  where
    go : (b : Bool) → how_many p os ≤ length os → (if b then 1 + how_many p os else how_many p os) ≤ suc (length os)
    go true h = omega arith
    go false h = omega arith

-- the counts that are subtracted
pub record Counts (os : List Outcome) : Type 0 where
  pub placed : how_many (λ o. is_placed o) os ≡ came_all os
  pub went : went_all os ≡ how_many (λ o. is_forward o) os + (drops_all 9 os + (drops_all 10 os + lost_all os))
  pub few : how_many (λ o. is_placed o) os ≤ length os
  pub law : went_all os ≤ came_all os → how_many (λ o. is_arrival o) os ≡ how_many (λ o. is_forward o) os + ((dropped os + lost_all os) + (came_all os - went_all os))

pub counts : (os : List Outcome) → Counts os
counts os = record { placed = placed_came os; went = went_is os; few = many_le (λ o. is_placed o) os; law = all_told os }

-- a drop for the last cause is no placing
last_few : (os : List Outcome) → drops_all 13 os + how_many (λ o. is_placed o) os ≤ length os
last_few [] = omega arith
last_few (Installed ∷ os) = let h : drops_all 13 os + how_many (λ o. is_placed o) os ≤ length os = last_few os in omega arith
last_few (Placed w f ∷ os) = let h : drops_all 13 os + how_many (λ o. is_placed o) os ≤ length os = last_few os in omega arith
last_few (Forward n w k x b v ∷ os) = let h : drops_all 13 os + how_many (λ o. is_placed o) os ≤ length os = last_few os in omega arith
last_few (Dropped k c ∷ os) = go (number c == 13) (last_few os)
  where
    go : (b : Bool) → drops_all 13 os + how_many (λ o. is_placed o) os ≤ length os → (if b then 1 + drops_all 13 os else drops_all 13 os) + how_many (λ o. is_placed o) os ≤ suc (length os)
    go true h = omega arith
    go false h = omega arith
last_few (Restarted l ∷ os) = let h : drops_all 13 os + how_many (λ o. is_placed o) os ≤ length os = last_few os in omega arith
last_few (Refused r ∷ os) = let h : drops_all 13 os + how_many (λ o. is_placed o) os ≤ length os = last_few os in omega arith

-- the last count is no more than all outcomes
pub last_fits : (os : List Outcome) → went_all os ≤ came_all os → drops_all 13 os + lost_all os ≤ length os
last_fits os h =
    let c : Counts os = counts os in
    let l : drops_all 13 os + how_many (λ o. is_placed o) os ≤ length os = last_few os in
    omega (arith, c.placed, c.went)

-- the counts of drops add up
pub drops_add_up : (os : List Outcome) → sum (drop_counts os) ≡ dropped os + lost_all os
drops_add_up os = omega arith
