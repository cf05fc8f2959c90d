-- What sends tell that were noted one after another. The newest is in front.
use Rattle.std.specs.Prelude.{ℕ, ◌+◌, List, [], ◌∷◌, ◌++◌, length, Option, Some, None, is_some, if◌then◌else◌}
use Rattle.five_tuple.specs.declared.Flow.{Flow}
use Rattle.connection_table.specs.Touches.{same_flow}
use Rattle.selection.specs.Readied.{same_backend}
use Rattle.cluster_node.specs.declared.events.Event.{Event}
use Rattle.cluster_node.specs.declared.events.LogEntry.{LogEntry}
use Rattle.cluster_node.specs.declared.outcomes.Outcome.{Outcome}
use Rattle.run_report.specs.declared.noted.Beside.{Beside}
use Rattle.run_report.specs.declared.noted.Noted.{Noted}
use Rattle.run_report.specs.declared.sending.Sending.{Sending}
use Rattle.run_report.specs.declared.sending.Split.{Split}
use Rattle.run_report.specs.Splits.{sent_by}

-- the last send of a flow
abbrev pub last_noted : {T : Type 0} → List (Noted T) → Flow → Option (Noted T)
last_noted [] x = None
last_noted (n ∷ ns) x = if same_flow n.sending.flow x then Some n else last_noted ns x

-- a send of a flow after its last one is a split where the backends differ, in name or address
abbrev pub split_with : {T : Type 0} → Option (Noted T) → Noted T → List Split
split_with None later = []
split_with (Some first) later = if same_backend first.sending.backend later.sending.backend then []
    else record { first = first.sending; later = later.sending } ∷ []

-- what is kept beside its sends
abbrev pub beside_with : {T : Type 0} → Option (Noted T) → Noted T → List (Beside T)
beside_with None later = []
beside_with (Some first) later = if same_backend first.sending.backend later.sending.backend then []
    else record { first = first.beside; later = later.beside } ∷ []

-- the splits, in the order of their later sends
abbrev pub splits_noted : {T : Type 0} → List (Noted T) → List Split
splits_noted [] = []
splits_noted (n ∷ ns) = splits_noted ns ++ split_with (last_noted ns n.sending.flow) n

-- what is kept beside the sends of each
abbrev pub besides_noted : {T : Type 0} → List (Noted T) → List (Beside T)
besides_noted [] = []
besides_noted (n ∷ ns) = besides_noted ns ++ beside_with (last_noted ns n.sending.flow) n

-- how many flows there are
abbrev pub count_noted : {T : Type 0} → List (Noted T) → ℕ
count_noted [] = 0
count_noted (n ∷ ns) = count_noted ns + (if is_some (last_noted ns n.sending.flow) then 0 else 1)

-- one send more or none, with what is kept beside it
abbrev pub noted_with : {T : Type 0} → Option Sending → T → List (Noted T) → List (Noted T)
noted_with None beside ns = ns
noted_with (Some s) beside ns = record { sending = s; beside = beside } ∷ ns

-- what was sent at the event of a number more
abbrev pub noted_by : {T : Type 0} → ℕ → Event → Outcome → T → List (Noted T) → List (Noted T)
noted_by k e o beside ns = noted_with (sent_by k e o) beside ns

abbrev pub sends_with : Option Sending → List Sending → List Sending
sends_with None ss = ss
sends_with (Some s) ss = s ∷ ss

-- the sends of a record, the newest in front
abbrev pub sends_of : List LogEntry → List Sending
sends_of [] = []
sends_of (s ∷ past) = sends_with (sent_by (length past) s.event s.outcome) (sends_of past)
