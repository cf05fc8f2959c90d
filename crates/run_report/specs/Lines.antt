-- The listing: a line for each event, with its outcome.
use Rattle.std.specs.Prelude.{ℕ, ◌+◌, List, [], ◌∷◌, ◌++◌, codes}
use Rattle.std.specs.Fmt.{decimal}
use Rattle.cluster_node.specs.declared.events.Event.{Event}
use Rattle.cluster_node.specs.declared.events.Event.TheVariants.{Install, Arrive, Serve, Restart}
use Rattle.cluster_node.specs.declared.events.LogEntry.{LogEntry}
use Rattle.cluster_node.specs.declared.outcomes.Outcome.{Outcome}
use Rattle.cluster_node.specs.declared.outcomes.Outcome.TheVariants.{Installed, Placed, Forward, Dropped, Restarted, Refused}
use Rattle.maglev_texts.specs.Printing.{backend_text}
use Rattle.run_report.specs.Names.{cause_name, reason_name}

abbrev pub event_text : Event → List ℕ
event_text (Install node version) = codes "install " ++ (decimal node ++ (codes " " ++ decimal version))
event_text (Arrive node packet marks) = codes "arrive " ++ (decimal node ++ (codes " " ++ decimal packet))
event_text (Serve node worker version refused) = codes "serve " ++ (decimal node ++ (codes " " ++ (decimal worker ++ (codes " " ++ decimal version))))
event_text (Restart node) = codes "restart " ++ decimal node

abbrev pub outcome_text : Outcome → List ℕ
outcome_text Installed = codes "installed"
outcome_text (Placed worker floor) = codes "placed " ++ decimal worker
outcome_text (Forward node worker packet flow backend origin) = codes "forward " ++ (backend_text backend ++ (codes " from " ++ decimal origin))
outcome_text (Dropped packet cause) = codes "drop " ++ cause_name cause
outcome_text (Restarted lost) = codes "restarted " ++ decimal lost
outcome_text (Refused reason) = codes "refused " ++ reason_name reason

-- `K EVENT: OUTCOME`
abbrev pub line_of : ℕ → Event → Outcome → List ℕ
line_of k event outcome = decimal k ++ (codes " " ++ (event_text event ++ (codes ": " ++ (outcome_text outcome ++ codes "\n"))))

abbrev pub line_text : ℕ → LogEntry → List ℕ
line_text k said = line_of k said.event said.outcome

-- a line for each event, numbered on from k
abbrev pub lines_from : ℕ → List LogEntry → List ℕ
lines_from k [] = []
lines_from k (said ∷ later) = line_text k said ++ lines_from (k + 1) later

-- a line for each event, the oldest first, numbered from 0
abbrev pub listing : List LogEntry → List ℕ
listing history = lines_from 0 history
