-- Counts of packets, and shares of them.
use Rattle.std.specs.Prelude.{ℕ, ◌+◌, List, [], ◌∷◌, slice_index, slice_set}
use Rattle.cluster_node.specs.declared.outcomes.Cause.{Cause}
use Rattle.cluster_node.specs.declared.outcomes.Cause.TheVariants.{NotIpv4, Truncated, BadHeader, BadChecksum, Fragment, NotTcpUdp, BadTransport, TooLarge}
use Rattle.cluster_node.specs.declared.outcomes.Cause.TheVariants.{NoService, NoBackend, NoVersion, RingsFull, LostAtRestart}

-- the place of a cause among the drops
abbrev pub place_of : Cause → ℕ
place_of NotIpv4 = 0
place_of Truncated = 1
place_of BadHeader = 2
place_of BadChecksum = 3
place_of Fragment = 4
place_of NotTcpUdp = 5
place_of BadTransport = 6
place_of TooLarge = 7
place_of NoService = 8
place_of NoBackend = 9
place_of NoVersion = 10
place_of RingsFull = 11
place_of LostAtRestart = 12

-- one more at the place of a cause
abbrev pub one_more : List ℕ → Cause → List ℕ
one_more drops cause = slice_set drops (place_of cause) (slice_index drops (place_of cause) + 1)

-- the sums of two lists, place by place
abbrev pub sums : List ℕ → List ℕ → List ℕ
sums [] ys = []
sums (x ∷ xs) [] = x ∷ xs
sums (x ∷ xs) (y ∷ ys) = (x + y) ∷ sums xs ys

-- some parts of the ledgers of the drops, and what was counted on them
pub record Dropped : Type 0 where
  pub parts : ℕ
  pub amounts : List ℕ

-- some parts of all ledgers, and what was counted on them
pub record Counted : Type 0 where
  pub parts : ℕ
  pub received : ℕ
  pub forwarded : ℕ
  pub dropped : List ℕ
