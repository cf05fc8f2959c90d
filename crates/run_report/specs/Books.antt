-- A book of each flow's last send, and of the splits so far, is that of a record.
use Rattle.std.specs.Prelude.{◌≡◌, ℕ, List, length, map, Option, Some, None, MatchOption, option_map, slice_get, if◌then◌else◌}
use Rattle.five_tuple.specs.declared.Flow.{Flow}
use Rattle.connection_table.specs.Touches.{same_flow}
use Rattle.flow_map.specs.Maps.{value_of, StandsAt}
use Rattle.pool_versions.specs.declared.backend.Backend.{Backend}
use Rattle.cluster_node.specs.declared.events.LogEntry.{LogEntry}
use Rattle.run_report.specs.declared.book.SplitBook.{SplitBook}
use Rattle.run_report.specs.declared.last_sends.LastSend.{LastSend}
use Rattle.run_report.specs.declared.last_sends.LastSends.{LastSends}
use Rattle.run_report.specs.declared.noted.Noted.{Noted}
use Rattle.run_report.specs.declared.sending.Sending.{Sending}
use Rattle.run_report.specs.Noting.{last_noted, splits_noted, besides_noted, count_noted, sends_of}
use Rattle.run_report.specs.Splits.{splits_of, flows_of}

-- the send that a flow's entry represents, by the backend at its place
abbrev pub told : {T : Type 0} → List Backend → Flow → LastSend T → Option (Noted T)
told backends x l =
    option_map (λ b. record {
      sending = record { number = l.number; flow = x; version = l.version; backend = b; origin = l.origin };
      beside = l.beside;
    }) (slice_get backends l.place)

-- each flow's entry represents its last send, and the others have none
pub record AreLast {T : Type 0} (sent : Flow → Option (Noted T)) (l : LastSends T) : Type 0 where
  pub each : (x : Flow) → option_map (λ s. told l.backends x s) (value_of x l.sends) ≡ option_map Some (sent x)

-- these sends with one that is its flow's last
abbrev pub with_send : {T : Type 0} → (Flow → Option (Noted T)) → Noted T → Flow → Option (Noted T)
with_send sent later x = if same_flow later.sending.flow x then Some later else sent x

-- the flow's entry is at the place, or it has none
abbrev pub IsPlaceOf : {T : Type 0} → Flow → LastSends T → Option ℕ → Type 0
IsPlaceOf x l place = MatchOption place (value_of x l.sends ≡ None) (λ p. StandsAt x l.sends p)

-- a packet was sent, its flow's last send went to the same backend, and the later one has taken its place
abbrev pub RenewedAs : {T : Type 0} → (Flow → Option (Noted T)) → Option Sending → T → LastSends T → LastSends T → Type 0
RenewedAs sent None beside old new = ⊥
RenewedAs {T} sent (Some s) beside old new =
    (first : Noted T) × (sent s.flow ≡ Some first) × (first.sending.backend ≡ s.backend)
    × AreLast (with_send sent (record { sending = s; beside = beside })) new × (length new.sends ≡ length old.sends)

-- the book answers what these sends tell, the newest of which is in front
pub record IsSettledAs {T : Type 0} (done : List (Noted T)) (b : SplitBook T) : Type 0 where
  pub last : AreLast (λ x. last_noted done x) b.last
  pub flows : length b.last.sends ≡ count_noted done
  pub splits : b.splits.items ≡ splits_noted done
  pub besides : b.besides.items ≡ besides_noted done

-- the book is that of a record
pub record IsBookOf {T : Type 0} (past : List LogEntry) (b : SplitBook T) : Type 0 where
  pub number : b.number ≡ length past
  pub all : List (Noted T)
  pub settled : IsSettledAs all b
  pub sends : map (λ n. n.sending) all ≡ sends_of past
  pub flows : length b.last.sends ≡ length (flows_of past)
  pub splits : b.splits.items ≡ splits_of past
