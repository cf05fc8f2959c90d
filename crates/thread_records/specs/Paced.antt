-- Histories of nodes whose rings refused nothing.
use Rattle.std.specs.Prelude.{◌≡◌, List}
use Rattle.std.specs.List.{All}
use Rattle.cluster_node.specs.declared.events.Event.{Event}
use Rattle.cluster_node.specs.declared.events.Event.TheVariants.{Install, Arrive, Serve, Restart}
use Rattle.thread_records.specs.declared.nodes.NodeRecord.{NodeRecord}
use Rattle.thread_records.specs.Journals.{no_marks}

-- where a packet arrives, no worker is marked as refusing it
abbrev pub IsUnmarked : Event → Type 0
IsUnmarked (Install n v) = Unit {0}
IsUnmarked (Arrive n k marks) = marks ≡ no_marks
IsUnmarked (Serve n w v r) = Unit {0}
IsUnmarked (Restart n) = Unit {0}

-- so is each arrival of a history
abbrev pub AreUnmarked : List Event → Type 0
AreUnmarked es = All (λ e. IsUnmarked e) es

-- no ring of these nodes refused a packet
abbrev pub NoneRefused : List NodeRecord → Type 0
NoneRefused rs = All (λ r. AreUnmarked r.events.items) rs
