-- The last send of each flow.
use Rattle.std.specs.Prelude.{◌≡◌, ℕ, List, length, Option, Some, None, MatchOption, option_map, slice_get, if◌then◌else◌}
use Rattle.five_tuple.specs.declared.Flow.{Flow}
use Rattle.connection_table.specs.Touches.{same_flow}
use Rattle.flow_map.specs.Maps.{value_of, StandsAt}
use Rattle.pool_versions.specs.declared.backend.Backend.{Backend}
use Rattle.summary_book.specs.declared.last.Last.{Last}
use Rattle.summary_book.specs.declared.last.Lasts.{Lasts}
use Rattle.summary_book.specs.declared.sent.Sent.{Sent}
use Rattle.summary_book.specs.Sents.{unversioned}

-- the send that a flow's entry represents, by the backend at its place
abbrev pub told : List Backend → Flow → Last → Option Sent
told backends x l =
    option_map (λ b. record { flow = x; backend = b; version = 0; origin = l.origin; node = l.node; worker = l.worker; life = l.life }) (slice_get backends l.place)

-- each flow's entry represents its last send, and the others have none
pub record AreLast (sent : Flow → Option Sent) (l : Lasts) : Type 0 where
  pub each : (x : Flow) → option_map (λ s. told l.backends x s) (value_of x l.sends) ≡ option_map (λ s. Some (unversioned s)) (sent x)

-- these sends with one that is its flow's last
abbrev pub with_sent : (Flow → Option Sent) → Sent → Flow → Option Sent
with_sent sent later x = if same_flow later.flow x then Some later else sent x

-- the flow's entry is at the place, or it has none
abbrev pub IsPlaceOf : Flow → Lasts → Option ℕ → Type 0
IsPlaceOf x l place = MatchOption place (value_of x l.sends ≡ None) (λ p. StandsAt x l.sends p)

-- the flow's last send went to the same backend, and the later one has taken its place
pub record RenewedAs (sent : Flow → Option Sent) (later : Sent) (old new : Lasts) : Type 0 where
  pub first : Sent
  pub was : sent later.flow ≡ Some first
  pub same : first.backend ≡ later.backend
  pub last : AreLast (with_sent sent later) new
  pub flows : length new.sends ≡ length old.sends
