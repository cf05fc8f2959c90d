-- The changes of a record: its splits, each with where both packets were sent, and why.
use Rattle.std.specs.Prelude.{ℕ, ◌-◌, ◌==◌, nat_lt, Bool, false, List, [], ◌∷◌, length, map, Option, Some, None, if◌then◌else◌}
use Rattle.std.specs.List.{list_any, count_by}
use Rattle.five_tuple.specs.declared.Flow.{Flow}
use Rattle.connection_table.specs.Touches.{same_flow}
use Rattle.change_share.specs.declared.counts.ChangeCounts.{ChangeCounts}
use Rattle.cluster_node.specs.declared.events.LogEntry.{LogEntry}
use Rattle.run_report.specs.declared.cause.SplitCause.{SplitCause}
use Rattle.run_report.specs.declared.cause.SplitCause.TheVariants as splits
use Rattle.run_report.specs.declared.sending.Split.{Split}
use Rattle.run_report.specs.Causes.{Lookups, cause_of}
use Rattle.run_report.specs.Splits.{sent_by, last_sent, split_by, splits_of, flows_of}
use Rattle.connection_changes.specs.declared.causes.Change.{Change}
use Rattle.connection_changes.specs.declared.causes.ChangeCause.{ChangeCause}
use Rattle.connection_changes.specs.declared.causes.ChangeCause.TheVariants.{Down, Drained, Node, Restart, Worker, Idle, Evicted}
use Rattle.connection_changes.specs.declared.sites.Site.{Site}
use Rattle.connection_changes.specs.Sites.{site_at}

-- a split with where its packets were sent
abbrev pub change_in : List LogEntry → Split → Change
change_in past p = record { split = p; first = site_at past p.first.number; later = site_at past p.later.number }

-- the changes of a record, in the order of their later sends
abbrev pub changes_of : List LogEntry → List Change
changes_of past = map (λ p. change_in past p) (splits_of past)

-- the flows of some splits and others, each once
abbrev pub changed_with : List Split → List Flow → List Flow
changed_with [] xs = xs
changed_with (p ∷ ps) xs = changed_with ps (if list_any (same_flow p.later.flow) xs then xs else p.later.flow ∷ xs)

-- the flows that were split, each once
abbrev pub changed_of : List LogEntry → List Flow
changed_of [] = []
changed_of (s ∷ past) = changed_with (split_by (λ x. last_sent past x) (sent_by (length past) s.event s.outcome)) (changed_of past)

-- how many connections there were, and how many of them changed their server
abbrev pub counts_of : List LogEntry → ChangeCounts
counts_of past = record { connections = length (flows_of past); changed = length (changed_of past) }

-- there is an idle limit, and the clock at the later send is past it
abbrev pub is_past : Option ℕ → Site → Site → Bool
is_past None a b = false
is_past (Some limit) a b = nat_lt limit (b.clock - a.clock)

-- why a connection moved from a server that is up or drains: the first of these that holds
abbrev pub moved_cause : Option ℕ → Site → Site → ChangeCause
moved_cause idle a b =
    if a.node == b.node then (if a.life == b.life then (if a.worker == b.worker then (if is_past idle a b then Idle else Evicted) else Worker) else Restart)
    else Node

abbrev pub cause_between : SplitCause → Option ℕ → Site → Site → ChangeCause
cause_between splits.Down idle a b = Down
cause_between splits.Moved idle a b = moved_cause idle a b
cause_between splits.Drained idle a b = Drained

-- why a connection changed its server
abbrev pub cause_in : Lookups → Option ℕ → Change → ChangeCause
cause_in lookups idle c = cause_between (cause_of lookups c.split) idle c.first c.later

-- the place of a cause in the order of the summary
abbrev pub cause_place : ChangeCause → ℕ
cause_place Down = 0
cause_place Drained = 1
cause_place Node = 2
cause_place Restart = 3
cause_place Worker = 4
cause_place Idle = 5
cause_place Evicted = 6

abbrev pub same_cause : ChangeCause → ChangeCause → Bool
same_cause a b = cause_place a == cause_place b

-- how many changes have a cause
abbrev pub changes_by : Lookups → Option ℕ → List Change → ChangeCause → ℕ
changes_by lookups idle cs cause = count_by (λ c. same_cause cause (cause_in lookups idle c)) cs
