-- How many packets came and went, read off the outcomes.
use Rattle.std.specs.Prelude.{ℕ, ◌+◌, List, [], ◌∷◌, if◌then◌else◌}
use Rattle.cluster_node.specs.declared.outcomes.Outcome.{Outcome}
use Rattle.cluster_node.specs.declared.outcomes.Outcome.TheVariants.{Installed, Placed, Forward, Dropped, Restarted, Refused}
use Rattle.cluster_node.specs.declared.events.LogEntry.{LogEntry}
use Rattle.cluster_core.specs.OutcomeCounts.{at_serving}

-- how many packets an outcome puts into the queues
abbrev pub came : Outcome → ℕ
came Installed = 0
came (Placed w f) = 1
came (Forward n w k x b v) = 0
came (Dropped k c) = 0
came (Restarted l) = 0
came (Refused r) = 0

-- how many it takes out
abbrev pub went : Outcome → ℕ
went Installed = 0
went (Placed w f) = 0
went (Forward n w k x b v) = 1
went (Dropped k c) = if at_serving c then 1 else 0
went (Restarted l) = l
went (Refused r) = 0

abbrev pub came_all : List Outcome → ℕ
came_all [] = 0
came_all (o ∷ os) = came o + came_all os

abbrev pub went_all : List Outcome → ℕ
went_all [] = 0
went_all (o ∷ os) = went o + went_all os

abbrev pub came_of : List LogEntry → ℕ
came_of [] = 0
came_of (s ∷ past) = came s.outcome + came_of past

abbrev pub went_of : List LogEntry → ℕ
went_of [] = 0
went_of (s ∷ past) = went s.outcome + went_of past
