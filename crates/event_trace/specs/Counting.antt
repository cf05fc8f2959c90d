-- The totals of a run, counted as its events come.
use Rattle.std.specs.Prelude.{◌≡◌, ◌-◌, List}
use Rattle.cluster_node.specs.declared.outcomes.Outcome.{Outcome}
use Rattle.cluster_core.specs.declared.counts.Totals.{Totals}
use Rattle.cluster_core.specs.OutcomeCounts.{is_arrival, is_forward, is_refused, how_many, drop_counts}
use Rattle.cluster_core.specs.Totals.{came_all, went_all}
use Rattle.event_trace.specs.declared.counts.Counts.{Counts}

-- the counts are those of these outcomes
pub record CountsAre (os : List Outcome) (c : Counts) : Type 0 where
  pub received : c.received ≡ how_many (λ o. is_arrival o) os
  pub forwarded : c.forwarded ≡ how_many (λ o. is_forward o) os
  pub dropped : c.dropped ≡ drop_counts os
  -- what came into the queues, and what left them
  pub placed : c.placed ≡ came_all os
  pub taken : c.taken ≡ went_all os
  pub refused : c.refused ≡ how_many (λ o. is_refused o) os

-- what came into the queues and didn't leave them waits
abbrev pub totals_by : Counts → Totals
totals_by c = record { received = c.received; forwarded = c.forwarded; dropped = c.dropped; waiting = c.placed - c.taken; refused = c.refused }
