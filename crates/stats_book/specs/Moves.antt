-- What one packet changes in the counts.
use Rattle.std.specs.Prelude.{◌≡◌, ◌+◌}
use Rattle.cluster_node.specs.declared.outcomes.Cause.{Cause}
use Rattle.stats_book.specs.declared.stats.Stats.{Stats}
use Rattle.stats_book.specs.Counts.{one_more, sums}

-- one packet came, and waits
pub record IsReceived (old new : Stats) : Type 0 where
  pub received : new.received ≡ old.received + 1
  pub forwarded : new.forwarded ≡ old.forwarded
  pub dropped : new.dropped ≡ old.dropped
  pub waiting : new.waiting ≡ old.waiting + 1

-- one packet that waited was sent
pub record IsForwarded (old new : Stats) : Type 0 where
  pub received : new.received ≡ old.received
  pub forwarded : new.forwarded ≡ old.forwarded + 1
  pub dropped : new.dropped ≡ old.dropped
  pub waiting : new.waiting + 1 ≡ old.waiting

-- one packet that waited was dropped with a cause
pub record IsDropped (cause : Cause) (old new : Stats) : Type 0 where
  pub received : new.received ≡ old.received
  pub forwarded : new.forwarded ≡ old.forwarded
  pub dropped : new.dropped ≡ one_more old.dropped cause
  pub waiting : new.waiting + 1 ≡ old.waiting

-- the counts of two lists of packets together
pub record IsSum (some others both : Stats) : Type 0 where
  pub received : both.received ≡ some.received + others.received
  pub forwarded : both.forwarded ≡ some.forwarded + others.forwarded
  pub dropped : both.dropped ≡ sums some.dropped others.dropped
  pub waiting : both.waiting ≡ some.waiting + others.waiting
