-- The counts of a run have room for one more step over so many records.
use Rattle.std.specs.Prelude.{ℕ, ◌+◌, ◌≤◌, ◌<◌, ◌^◌}
use Rattle.event_trace.specs.Trace.{Trace}

pub record Room (records : ℕ) (c : Trace) : Type 0 where
  pub read : c.read ≤ records
  pub nth : c.nth + records < 2 ^ 63
  pub unrouted : c.unrouted + records < 2 ^ 63
  pub lost : c.lost + records < 2 ^ 63
  pub skipped : c.skipped < 2 ^ 63

-- the counts after so many steps
pub record Counted (records steps : ℕ) (c : Trace) : Type 0 where
  pub read : c.read ≤ records
  pub nth : c.nth ≤ c.read + steps
  pub unrouted : c.unrouted ≤ c.read + steps
  pub lost : c.lost ≤ c.read
  pub skipped : c.skipped ≤ steps
