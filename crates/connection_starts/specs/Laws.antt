-- What is true of the ordinals of all captures.
use Rattle.std.specs.Prelude.{◌≡◌, false, List, None}
use Rattle.std.specs.List.{All}
use Rattle.five_tuple.specs.declared.Flow.{Flow}
use Rattle.connection_starts.specs.declared.segment.Segment.{Segment}
use Rattle.connection_starts.specs.Segments.{closes}
use Rattle.connection_starts.specs.Ordinals.{starts_of}

-- where nothing ends, and no time is given, no flow begins again
abbrev pub NothingEndsNothingBegins : Type 0
NothingEndsNothingBegins = (past : List Segment) → All (λ s. closes s.flags ≡ false) past → (x : Flow) → starts_of None past x ≡ 0
