-- The changes of connections where a flow that begins again is another one. The turn of a record is the ordinal of its
-- connection among those of its flow. A list of sends has the newest in front.
use Rattle.std.specs.Prelude.{ℕ, ◌+◌, ◌==◌, Bool, false, not, ◌&&◌, ◌||◌, List, [], ◌∷◌, ◌++◌, length, map, Option, Some, None, is_some, if◌then◌else◌}
use Rattle.five_tuple.specs.declared.Flow.{Flow}
use Rattle.connection_table.specs.Touches.{same_flow}
use Rattle.selection.specs.Readied.{same_backend}
use Rattle.change_share.specs.declared.counts.ChangeCounts.{ChangeCounts}
use Rattle.cluster_node.specs.declared.events.LogEntry.{LogEntry}
use Rattle.run_report.specs.declared.noted.Noted.{Noted}
use Rattle.run_report.specs.declared.sending.Split.{Split}
use Rattle.run_report.specs.Splits.{splits_of, flows_of}
use Rattle.connection_changes.specs.declared.account.Account.{Account}
use Rattle.connection_changes.specs.declared.causes.Change.{Change}
use Rattle.connection_changes.specs.declared.sites.Site.{Site}
use Rattle.connection_changes.specs.Books.{placed_of}
use Rattle.connection_changes.specs.Changes.{changed_of, changes_of}

-- how many connections there were, how many of them changed their server, and the splits and the changes in the order of their
-- later sends
pub record Reckoning : Type 0 where
  pub connections : ℕ
  pub changed : ℕ
  pub splits : List Split
  pub changes : List Change

abbrev pub reckoned : Account → Reckoning
reckoned a = record { connections = a.connections; changed = a.changed; splits = a.splits.now; changes = a.changes.now }

-- those of a record, where each flow is one connection
abbrev pub reckoning_of : List LogEntry → Reckoning
reckoning_of past = record { connections = length (flows_of past); changed = length (changed_of past); splits = splits_of past; changes = changes_of past }

-- how many connections there were, and how many of them changed their server
abbrev pub counts_in : Reckoning → ChangeCounts
counts_in r = record { connections = r.connections; changed = r.changed }

-- a send is one of a flow's connection of this ordinal
abbrev pub is_of : (ℕ → ℕ) → Flow → ℕ → Noted Site → Bool
is_of turn x j n = same_flow n.sending.flow x && (turn n.beside.packet == j)

-- the last send of a connection
abbrev pub last_of : (ℕ → ℕ) → List (Noted Site) → Flow → ℕ → Option (Noted Site)
last_of turn [] x j = None
last_of turn (n ∷ ns) x j = if is_of turn x j n then Some n else last_of turn ns x j

-- the last send of the connection of a send
abbrev pub last_before : (ℕ → ℕ) → List (Noted Site) → Noted Site → Option (Noted Site)
last_before turn ns n = last_of turn ns n.sending.flow (turn n.beside.packet)

-- a send after the connection's last one is a change where the backends differ, in name or address
abbrev pub is_change : Option (Noted Site) → Noted Site → Bool
is_change None later = false
is_change (Some first) later = not (same_backend first.sending.backend later.sending.backend)

abbrev pub change_by : Noted Site → Noted Site → Change
change_by first later = record { split = record { first = first.sending; later = later.sending }; first = first.beside; later = later.beside }

abbrev pub change_with : Option (Noted Site) → Noted Site → List Change
change_with None later = []
change_with (Some first) later = if same_backend first.sending.backend later.sending.backend then [] else change_by first later ∷ []

-- the changes, in the order of their later sends
abbrev pub changes_by_turn : (ℕ → ℕ) → List (Noted Site) → List Change
changes_by_turn turn [] = []
changes_by_turn turn (n ∷ ns) = changes_by_turn turn ns ++ change_with (last_before turn ns n) n

-- how many connections there are
abbrev pub connections_by : (ℕ → ℕ) → List (Noted Site) → ℕ
connections_by turn [] = 0
connections_by turn (n ∷ ns) = connections_by turn ns + (if is_some (last_before turn ns n) then 0 else 1)

-- a connection changed its server
abbrev pub has_changed : (ℕ → ℕ) → List (Noted Site) → Flow → ℕ → Bool
has_changed turn [] x j = false
has_changed turn (n ∷ ns) x j = (is_of turn x j n && is_change (last_before turn ns n) n) || has_changed turn ns x j

-- how many connections changed their server: each is counted at its first change
abbrev pub changed_by : (ℕ → ℕ) → List (Noted Site) → ℕ
changed_by turn [] = 0
changed_by turn (n ∷ ns) = changed_by turn ns + (if is_change (last_before turn ns n) n && not (has_changed turn ns n.sending.flow (turn n.beside.packet))
    then 1 else 0)

-- those of a record, where each record's connection has this ordinal among those of its flow
abbrev pub reckoning_by : (ℕ → ℕ) → List LogEntry → Reckoning
reckoning_by turn past = record {
  connections = connections_by turn (placed_of past);
  changed = changed_by turn (placed_of past);
  splits = map (λ c. c.split) (changes_by_turn turn (placed_of past));
  changes = changes_by_turn turn (placed_of past);
}
