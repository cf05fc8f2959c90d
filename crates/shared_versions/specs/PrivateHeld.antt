-- Which versions a replay needs.
use Rattle.std.specs.Prelude.{◌||◌, Bool, true, not, List, is_some}
use Rattle.std.specs.List.{list_all}
use Rattle.pool_versions.specs.Pool.{Pools, version_at}
use Rattle.selection.specs.Readied.{Readied}
use Rattle.cluster_node.specs.Record.{prepared_at}
use Rattle.cluster_node.specs.declared.events.Event.{Event}
use Rattle.cluster_node.specs.declared.events.Event.TheVariants.{Install, Arrive, Serve, Restart}

-- a version that an event installs is prepared, if the catalogue has it
abbrev pub is_held : {S : Type 0} → Pools → List (Readied S) → Event → Bool
is_held pools versions (Install n v) = not (is_some (version_at v pools.versions)) || is_some (prepared_at v versions)
is_held pools versions (Arrive n k marks) = true
is_held pools versions (Serve n w v r) = true
is_held pools versions (Restart n) = true

abbrev pub are_held : {S : Type 0} → Pools → List (Readied S) → List Event → Bool
are_held pools versions events = list_all (is_held pools versions) events
