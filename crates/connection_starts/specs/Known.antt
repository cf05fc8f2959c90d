-- What is kept of each flow is that of its segments.
use Rattle.std.specs.Prelude.{◌≡◌, ◌≤◌, ℕ, List, length, slice_index, Option, option_map}
use Rattle.std.specs.HashMap.{get}
use Rattle.five_tuple.specs.declared.Flow.{Flow}
use Rattle.connection_table.specs.Touches.{same_flow}
use Rattle.connection_starts.specs.declared.ordinals.Ordinals.{Ordinals}
use Rattle.connection_starts.specs.declared.segment.Segment.{Segment}
use Rattle.connection_starts.specs.declared.starts.Known.{Known}
use Rattle.connection_starts.specs.declared.starts.Starts.{Starts}
use Rattle.connection_starts.specs.declared.reading.Counted.{Counted}
use Rattle.connection_starts.specs.Ordinals.{is_over, last_at, starts_of, segments_of, ordinal_at}

-- of a flow that came
abbrev pub known_at : Option ℕ → List Segment → Flow → ℕ → Known
known_at idle past x at = record { ordinal = starts_of idle past x; is_over = is_over past x; at = at }

abbrev pub known_of : Option ℕ → List Segment → Flow → Option Known
known_of idle past x = option_map (λ at. known_at idle past x at) (last_at past x)

pub record AreStartsOf (past : List Segment) (s : Starts) : Type 0 where
  pub each : (x : Flow) → get same_flow s.flows x ≡ known_of s.idle past x

pub record AreOrdinals (idle : Option ℕ) (past : List (Option Segment)) (o : Ordinals) : Type 0 where
  pub each : (k : ℕ) → slice_index o.all.items k ≡ ordinal_at idle past k
  pub short : length o.all.items ≤ length past

-- the segments of some records were noted
pub record AreCounted (past : List (Option Segment)) (c : Counted) : Type 0 where
  pub starts : AreStartsOf (segments_of past) c.starts
  pub ordinals : AreOrdinals c.starts.idle past c.ordinals
