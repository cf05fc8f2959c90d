-- Totals of a list of outcomes.
use Rattle.std.specs.Prelude.{ℕ, ◌+◌, Bool, true, false, List, [], ◌∷◌, if◌then◌else◌, ◌==◌}
use Rattle.cluster_node.specs.declared.outcomes.Outcome.{Outcome}
use Rattle.cluster_node.specs.declared.outcomes.Outcome.TheVariants.{Installed, Placed, Forward, Dropped, Restarted, Refused}
use Rattle.cluster_node.specs.declared.outcomes.Cause.{Cause}
use Rattle.cluster_node.specs.declared.outcomes.Cause.TheVariants.{NotIpv4, Truncated, BadHeader, BadChecksum, Fragment, NotTcpUdp, BadTransport, TooLarge}
use Rattle.cluster_node.specs.declared.outcomes.Cause.TheVariants.{NoService, NoBackend, NoVersion, RingsFull, LostAtRestart}

abbrev pub number : Cause → ℕ
number NotIpv4 = 1
number Truncated = 2
number BadHeader = 3
number BadChecksum = 4
number Fragment = 5
number NotTcpUdp = 6
number BadTransport = 7
number TooLarge = 8
number NoService = 9
number NoBackend = 10
number NoVersion = 11
number RingsFull = 12
number LostAtRestart = 13

abbrev pub at_serving : Cause → Bool
at_serving NotIpv4 = false
at_serving Truncated = false
at_serving BadHeader = false
at_serving BadChecksum = false
at_serving Fragment = false
at_serving NotTcpUdp = false
at_serving BadTransport = false
at_serving TooLarge = false
at_serving NoService = true
at_serving NoBackend = true
at_serving NoVersion = false
at_serving RingsFull = false
at_serving LostAtRestart = false

-- an accepted arrival
abbrev pub is_arrival : Outcome → Bool
is_arrival Installed = false
is_arrival (Placed w f) = true
is_arrival (Forward n w k x b v) = false
is_arrival (Dropped k c) = if at_serving c then false else true
is_arrival (Restarted l) = false
is_arrival (Refused r) = false

abbrev pub is_forward : Outcome → Bool
is_forward Installed = false
is_forward (Placed w f) = false
is_forward (Forward n w k x b v) = true
is_forward (Dropped k c) = false
is_forward (Restarted l) = false
is_forward (Refused r) = false

abbrev pub lost_of : Outcome → ℕ
lost_of Installed = 0
lost_of (Placed w f) = 0
lost_of (Forward n w k x b v) = 0
lost_of (Dropped k c) = 0
lost_of (Restarted l) = l
lost_of (Refused r) = 0

abbrev pub lost_all : List Outcome → ℕ
lost_all [] = 0
lost_all (o ∷ os) = lost_of o + lost_all os

-- a drop with the cause of that number
abbrev pub drops : ℕ → Outcome → Bool
drops k Installed = false
drops k (Placed w f) = false
drops k (Forward n w j x b v) = false
drops k (Dropped j c) = number c == k
drops k (Restarted l) = false
drops k (Refused r) = false

-- how many outcomes pass a test
abbrev pub how_many : (Outcome → Bool) → List Outcome → ℕ
how_many p [] = 0
how_many p (o ∷ os) = if p o then 1 + how_many p os else how_many p os

abbrev pub drops_all : ℕ → List Outcome → ℕ
drops_all k os = how_many (λ o. drops k o) os

-- all drops but those that a restart counts
abbrev pub dropped : List Outcome → ℕ
dropped os = drops_all 1 os + (drops_all 2 os + (drops_all 3 os
    + (drops_all 4 os + (drops_all 5 os + (drops_all 6 os
    + (drops_all 7 os + (drops_all 8 os + (drops_all 9 os + (drops_all 10 os + (drops_all 11 os + (drops_all 12 os + drops_all 13 os)))))))))))

-- how many packets were dropped for each cause, by the causes' numbers; with the last cause also those lost at restarts
abbrev pub drop_counts : List Outcome → List ℕ
drop_counts os = drops_all 1 os ∷ drops_all 2 os ∷ drops_all 3 os ∷ drops_all 4 os ∷ drops_all 5 os ∷ drops_all 6 os ∷ drops_all 7 os ∷ drops_all 8 os
    ∷ drops_all 9 os ∷ drops_all 10 os ∷ drops_all 11 os ∷ drops_all 12 os ∷ (drops_all 13 os + lost_all os) ∷ []

abbrev pub is_placed : Outcome → Bool
is_placed Installed = false
is_placed (Placed w f) = true
is_placed (Forward n w k x b v) = false
is_placed (Dropped k c) = false
is_placed (Restarted l) = false
is_placed (Refused r) = false

abbrev pub is_refused : Outcome → Bool
is_refused Installed = false
is_refused (Placed w f) = false
is_refused (Forward n w k x b v) = false
is_refused (Dropped k c) = false
is_refused (Restarted l) = false
is_refused (Refused r) = true
