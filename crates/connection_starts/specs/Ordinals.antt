-- How often the flow of a record has begun again. Lists of segments and records have the newest in front.
use Rattle.std.specs.Prelude.{ℕ, ◌+◌, ◌-◌, ◌==◌, nat_lt, Bool, false, not, ◌&&◌, ◌||◌, List, [], ◌∷◌, length, Option, Some, None, if◌then◌else◌}
use Rattle.five_tuple.specs.declared.Flow.{Flow}
use Rattle.connection_table.specs.Touches.{same_flow}
use Rattle.connection_starts.specs.declared.segment.Segment.{Segment}
use Rattle.connection_starts.specs.Segments.{opens, closes}

-- a flow is over: FIN or RST came, and since then no SYN without ACK
abbrev pub is_over : List Segment → Flow → Bool
is_over [] x = false
is_over (s ∷ past) x = if same_flow s.flow x then closes s.flags || (is_over past x && not (opens s.flags)) else is_over past x

-- when a flow's last segment came
abbrev pub last_at : List Segment → Flow → Option ℕ
last_at [] x = None
last_at (s ∷ past) x = if same_flow s.flow x then Some s.at else last_at past x

-- a segment came at least so long after the one before it; times that step back are no time apart
abbrev pub is_late : Option ℕ → Option ℕ → ℕ → Bool
is_late None before now = false
is_late (Some idle) None now = false
is_late (Some idle) (Some before) now = not (nat_lt (now - before) idle)

-- a segment begins its flow again: a SYN without ACK of a flow that is over, or that was idle for so long, where this is given
abbrev pub begins_again : Option ℕ → List Segment → Segment → Bool
begins_again idle past s = opens s.flags && (is_over past s.flow || is_late idle (last_at past s.flow) s.at)

-- how often a flow has begun again
abbrev pub starts_of : Option ℕ → List Segment → Flow → ℕ
starts_of idle [] x = 0
starts_of idle (s ∷ past) x = starts_of idle past x + (if same_flow s.flow x && begins_again idle past s then 1 else 0)

-- the segments of records, those that have one
abbrev pub with_segment : Option Segment → List Segment → List Segment
with_segment None past = past
with_segment (Some s) past = s ∷ past

abbrev pub segments_of : List (Option Segment) → List Segment
segments_of [] = []
segments_of (o ∷ past) = with_segment o (segments_of past)

-- the ordinal of the newest record's connection among those of its flow: how often the flow has begun again, this record
-- among those that count
abbrev pub newest_ordinal : Option ℕ → Option Segment → List Segment → ℕ
newest_ordinal idle None past = 0
newest_ordinal idle (Some s) past = starts_of idle (s ∷ past) s.flow

-- that of the record of a number: how many records came before it
abbrev pub ordinal_at : Option ℕ → List (Option Segment) → ℕ → ℕ
ordinal_at idle [] k = 0
ordinal_at idle (o ∷ past) k = if k == length past then newest_ordinal idle o (segments_of past) else ordinal_at idle past k
