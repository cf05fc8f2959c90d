-- Of a capture only the first records are kept: as many as the steps may read, or until the steps are through with those that are kept.
use Rattle.std.specs.Prelude.{◌≡◌, ◌&&◌, ◌+◌, ◌-◌, ◌^◌, ℕ, Bool, true, false, List, [], ◌∷◌, Option, Some, None, length, map, drop, nat_lt, nat_le}
use Rattle.std.specs.Prelude.{if◌then◌else◌}
use Rattle.std.specs.List.{sum_by}
use Rattle.event_trace.specs.declared.play.Tally.{Tally}
use Rattle.pcap_file.specs.Format.{Record}
use Rattle.simulation.specs.Sent.{time_of}
use Rattle.timed_steps.specs.Timed.{reads, first_of, count_until, counted_step}
use Rattle.timed_steps.specs.declared.TimedStep.{TimedStep}
use Rattle.timed_steps.specs.declared.TimedStep.TheVariants.{Counted, Until}

-- how many records a step may read; one by time may read any number
abbrev pub may_read : TimedStep → ℕ
may_read (Counted s) = reads s
may_read (Until end) = 2 ^ 64 - 1

-- how many are kept for some steps
abbrev pub kept_for : List TimedStep → ℕ
kept_for ss = if nat_lt (sum_by may_read ss) (2 ^ 64) then sum_by may_read ss else 2 ^ 64 - 1

-- Whether a step is through with the records that are left, of these times, whatever follows them. One by time needs the record that
-- comes too late for it.
abbrev pub is_through : ℕ → List ℕ → TimedStep → Bool
is_through first left (Counted s) = nat_le (reads s) (length left)
is_through first left (Until end) = nat_lt (count_until first end left) (length left)

-- whether some steps are, one after another
abbrev pub settled_from : ℕ → List ℕ → List TimedStep → Bool
settled_from first left [] = true
settled_from first left (s ∷ ss) = is_through first left s && settled_from first (drop (reads (counted_step first left s)) left) ss

-- whether some steps are through with the first records of a capture, of these times; the first one must be there
abbrev pub settled : List ℕ → List TimedStep → Bool
settled times ss = nat_lt 0 (length times) && settled_from (first_of times) times ss

-- they are through with these records
abbrev pub Settle : List TimedStep → List Record → Type 0
Settle ss rs = settled (map time_of rs) ss ≡ true

-- whether a step takes or loses more than so many records
abbrev pub counts_more : ℕ → TimedStep → Bool
counts_more count (Counted s) = nat_lt count (reads s)
counts_more count (Until end) = false

-- the place behind a step's records, where it is through with those from a place on
abbrev pub place_behind : ℕ → List ℕ → ℕ → TimedStep → Option ℕ
place_behind first times at step = if is_through first (drop at times) step then Some (at + reads (counted_step first (drop at times) step)) else None

-- what becomes of the records, with others that no step reads
abbrev pub with_others : ℕ → Tally → Tally
with_others n t = record t { packets = t.packets + n; left = t.left + n }
