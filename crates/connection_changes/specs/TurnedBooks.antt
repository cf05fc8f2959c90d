-- A book of connections, where a flow that begins again is another one, is that of a record.
use Rattle.std.specs.Prelude.{◌≡◌, ℕ, ◌==◌, Bool, ◌&&◌, List, length, map}
use Rattle.std.specs.HashMap.{get, hash_map_len}
use Rattle.std.specs.HashSet.{contains, hash_set_len}
use Rattle.connection_table.specs.Touches.{same_flow}
use Rattle.cluster_node.specs.declared.events.LogEntry.{LogEntry}
use Rattle.run_report.specs.declared.noted.Noted.{Noted}
use Rattle.connection_starts.specs.declared.ordinals.Ordinals.{Ordinals}
use Rattle.connection_starts.specs.Captures.{answered}
use Rattle.connection_changes.specs.declared.sites.Site.{Site}
use Rattle.connection_changes.specs.declared.turned.Connection.{Connection}
use Rattle.connection_changes.specs.declared.turned.TurnedBook.{TurnedBook}
use Rattle.connection_changes.specs.Books.{AreClocksOf, placed_of}
use Rattle.connection_changes.specs.Turns.{last_of, changes_by_turn, connections_by, has_changed, changed_by}

abbrev pub same_connection : Connection → Connection → Bool
same_connection a b = same_flow a.flow b.flow && (a.ordinal == b.ordinal)

-- the book answers what these sends tell
pub record AreTurned (turn : ℕ → ℕ) (ns : List (Noted Site)) (b : TurnedBook) : Type 0 where
  pub last : (q : Connection) → get same_connection b.last q ≡ last_of turn ns q.flow q.ordinal
  pub connections : hash_map_len b.last ≡ connections_by turn ns
  pub each : (q : Connection) → contains same_connection b.changed q ≡ has_changed turn ns q.flow q.ordinal
  pub changed : hash_set_len b.changed ≡ changed_by turn ns
  pub splits : b.splits.items ≡ map (λ c. c.split) (changes_by_turn turn ns)
  pub changes : b.changes.items ≡ changes_by_turn turn ns

-- the book is that of a record, by these ordinals
pub record IsTurnedBookOf (o : Ordinals) (past : List LogEntry) (b : TurnedBook) : Type 0 where
  pub ordinals : b.ordinals ≡ o
  pub number : b.number ≡ length past
  pub clocks : AreClocksOf past b.clocks
  pub turned : AreTurned (λ k. answered o k) (placed_of past) b
