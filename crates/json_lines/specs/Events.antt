-- The lines of events, each with its outcome.
use Rattle.std.specs.Prelude.{ℕ, ◌+◌, List, [], ◌∷◌, ◌++◌, codes, Option, Some, None}
use Rattle.std.specs.Fmt.{decimal}
use Rattle.five_tuple.specs.declared.Flow.{Flow}
use Rattle.pool_versions.specs.declared.backend.Backend.{Backend}
use Rattle.cluster_node.specs.declared.events.Event.{Event}
use Rattle.cluster_node.specs.declared.events.Event.TheVariants.{Install, Arrive, Serve, Restart}
use Rattle.cluster_node.specs.declared.events.LogEntry.{LogEntry}
use Rattle.cluster_node.specs.declared.outcomes.Outcome.{Outcome}
use Rattle.cluster_node.specs.declared.outcomes.Outcome.TheVariants.{Installed, Placed, Forward, Dropped, Restarted, Refused}
use Rattle.cluster_node.specs.declared.packets.Packet.{Packet}
use Rattle.cluster_node.specs.declared.packets.Packet.TheVariants.{Good, Bad}
use Rattle.maglev_texts.specs.Printing.{flow_text}
use Rattle.run_report.specs.Names.{cause_name, reason_name}
use Rattle.connection_changes.specs.Texts.{time_text}
use Rattle.json_lines.specs.Members.{backend_members}

-- the time, the length and the flow of a packet, if it could be read
abbrev pub packet_members : Option Packet → List ℕ
packet_members None = []
packet_members (Some (Good flow len at)) =
    codes ",\"time\":" ++ (time_text at ++ (codes ",\"bytes\":" ++ (decimal len ++ (codes ",\"flow\":\"" ++ (flow_text flow ++ codes "\"")))))
packet_members (Some (Bad cause)) = []

abbrev pub event_members : Event → Option Packet → List ℕ
event_members (Install node version) packet = codes "\"kind\":\"install\",\"node\":" ++ (decimal node ++ (codes ",\"version\":" ++ decimal version))
event_members (Arrive node number marks) packet =
    codes "\"kind\":\"arrive\",\"node\":" ++ (decimal node ++ (codes ",\"record\":" ++ (decimal number ++ packet_members packet)))
event_members (Serve node worker version refused) packet =
    codes "\"kind\":\"serve\",\"node\":" ++ (decimal node ++ (codes ",\"worker\":" ++ (decimal worker ++ (codes ",\"version\":" ++ decimal version))))
event_members (Restart node) packet = codes "\"kind\":\"restart\",\"node\":" ++ decimal node

-- the record whose packet was dropped as it was served
abbrev pub served_member : Event → ℕ → List ℕ
served_member (Install node version) number = []
served_member (Arrive node packet marks) number = []
served_member (Serve node worker version refused) number = codes "\"record\":" ++ (decimal number ++ codes ",")
served_member (Restart node) number = []

-- `"record":RECORD,"flow":"FLOW",BACKEND,"chosen":VERSION`
unfoldable pub sent_members : ℕ → Flow → Backend → ℕ → List ℕ
sent_members packet flow backend origin =
    codes "\"record\":" ++ (decimal packet ++ (codes ",\"flow\":\"" ++ (flow_text flow ++ (codes "\"," ++ (backend_members backend
    ++ (codes ",\"chosen\":" ++ decimal origin))))))

-- what an event did
abbrev pub outcome_members : Event → Outcome → List ℕ
outcome_members event Installed = codes "\"outcome\":\"installed\""
outcome_members event (Placed worker floor) = codes "\"outcome\":\"placed\",\"worker\":" ++ decimal worker
outcome_members event (Forward node worker packet flow backend origin) = codes "\"outcome\":\"forward\"," ++ sent_members packet flow backend origin
outcome_members event (Dropped packet cause) =
    codes "\"outcome\":\"drop\"," ++ (served_member event packet ++ (codes "\"cause\":\"" ++ (cause_name cause ++ codes "\"")))
outcome_members event (Restarted lost) = codes "\"outcome\":\"restarted\",\"lost\":" ++ decimal lost
outcome_members event (Refused reason) = codes "\"outcome\":\"refused\",\"reason\":\"" ++ (reason_name reason ++ codes "\"")

-- `{"type":"event","event":K,EVENT,OUTCOME}`
abbrev pub event_json : ℕ → LogEntry → List ℕ
event_json k said =
    codes "{\"type\":\"event\",\"event\":" ++ (decimal k ++ (codes "," ++ (event_members said.event said.packet
    ++ (codes "," ++ (outcome_members said.event said.outcome ++ codes "}\n")))))

-- a line for each event, numbered on from k
abbrev pub events_json_from : ℕ → List LogEntry → List ℕ
events_json_from k [] = []
events_json_from k (said ∷ later) = event_json k said ++ events_json_from (k + 1) later

-- a line for each event, the oldest first, numbered from 0
abbrev pub listing_json : List LogEntry → List ℕ
listing_json history = events_json_from 0 history
