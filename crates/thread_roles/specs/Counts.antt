-- What outcomes come to, counted as a book of counts has it.
use Rattle.std.specs.Prelude.{◌≡◌, ℕ, zero, suc, ◌+◌, Bool, false, List, [], ◌∷◌, ◌++◌, map, Option, Some, None, slice_get}
use Rattle.stats_book.specs.Counts.{Counted, one_more, sums}
use Rattle.stats_book.specs.declared.stats.Stats.{Stats}
use Rattle.forwarder.specs.declared.Choice.{Choice}
use Rattle.forwarder.specs.declared.Choice.TheVariants.{Forward, NoService, NoBackend}
use Rattle.cluster_core.specs.OutcomeCounts.{is_arrival, is_forward, how_many, drop_counts}
use Rattle.cluster_node.specs.declared.outcomes.Outcome.{Outcome}
use Rattle.cluster_node.specs.declared.outcomes.Outcome.TheVariants.{Installed, Placed, Dropped, Restarted, Refused}
use Rattle.cluster_node.specs.declared.outcomes.Outcome.TheVariants as outcomes
use Rattle.cluster_node.specs.declared.outcomes.Cause.TheVariants as causes
use Rattle.cluster_node.specs.declared.packets.Packet.{Packet}
use Rattle.cluster_node.specs.Records.{WasRead}
use Rattle.handled_list.specs.declared.handled.Handled.{Handled}
use Rattle.thread_records.specs.Histories.{outcome_of}
use Rattle.thread_records.specs.Works.{WorkView}

-- all packets were read
abbrev pub AreRead : List Packet → Type 0
AreRead packets = (k : ℕ) (p : Packet) → slice_get packets k ≡ Some p → WasRead (Some p)

-- shares of so many parts, with what these outcomes come to
abbrev pub counted : ℕ → List Outcome → Counted
counted parts os = record {
  parts = parts;
  received = how_many (λ o. is_arrival o) os;
  forwarded = how_many (λ o. is_forward o) os;
  dropped = drop_counts os;
}

-- shares put together
abbrev pub plus : Counted → Counted → Counted
plus a b = record { parts = a.parts + b.parts; received = a.received + b.received; forwarded = a.forwarded + b.forwarded; dropped = sums a.dropped b.dropped }

-- unless a count was lost, the shares have what these outcomes come to
abbrev pub Counts : Bool → Counted → List Outcome → Type 0
Counts lost shares os = lost ≡ false → shares ≡ counted shares.parts os

-- one more packet came
abbrev pub with_arrival : Counted → Counted
with_arrival s = record s { received = s.received + 1 }

-- a packet that is there came
abbrev pub with_came : Option Packet → Counted → Counted
with_came None s = s
with_came (Some p) s = with_arrival s

-- what a driver counts of an outcome beside that a packet came
abbrev pub with_drop : Outcome → Counted → Counted
with_drop Installed s = s
with_drop (Placed w f) s = s
with_drop (outcomes.Forward n w k x b v) s = s
with_drop (Dropped k c) s = record s { dropped = one_more s.dropped c }
with_drop (Restarted l) s = s
with_drop (Refused r) s = s

-- so many packets were lost where a life ended
abbrev pub with_lost : ℕ → Counted → Counted
with_lost zero s = s
with_lost (suc lost) s = record (with_lost lost s) { dropped = one_more (with_lost lost s).dropped causes.LostAtRestart }

-- one more packet was served, with this choice
abbrev pub with_choice : Choice → Counted → Counted
with_choice (Forward b v) s = record s { forwarded = s.forwarded + 1 }
with_choice NoService s = record s { dropped = one_more s.dropped causes.NoService }
with_choice NoBackend s = record s { dropped = one_more s.dropped causes.NoBackend }

-- unless a count was lost, a worker's shares have what its servings come to, whichever worker it is
abbrev pub CountsServed : Bool → Counted → List Handled → Type 0
CountsServed lost shares hs = (n w : ℕ) → Counts lost shares (map (λ h. outcome_of n w h) hs)

-- a worker's one part of the counts has what it handled
pub record IsWork {S : Type 0} (w : WorkView S) (lost : Bool) (shares : Counted) : Type 0 where
  pub part : shares.parts ≡ 1
  pub counts : CountsServed lost shares w.handled

-- what the servings of the workers of a node come to, worker by worker, from this worker on
abbrev pub served_from : ℕ → ℕ → List (List Handled) → List Outcome
served_from n w [] = []
served_from n w (hs ∷ hss) = map (λ h. outcome_of n w h) hs ++ served_from n (w + 1) hss

-- The counts are the totals of these outcomes, and nothing waits.
pub record AreTotals (stats : Stats) (os : List Outcome) : Type 0 where
  pub received : stats.received ≡ how_many (λ o. is_arrival o) os
  pub forwarded : stats.forwarded ≡ how_many (λ o. is_forward o) os
  pub dropped : stats.dropped ≡ drop_counts os
  pub waiting : stats.waiting ≡ 0
