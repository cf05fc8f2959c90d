-- What a worker's servings depend on.
use Rattle.std.specs.List.{All}
use Rattle.std.specs.Prelude.{◌≡◌, ℕ, ◌<◌, ◌||◌, Bool, List, [], ◌∷◌, ◌++◌, length, map, Some, if◌then◌else◌, nat_lt, slice_get}
use Rattle.forwarder.specs.Serving.{told, told_after}
use Rattle.cluster_node.specs.declared.serving.Item.{Item}
use Rattle.cluster_node.specs.declared.serving.Taken.TheVariants.{Behind, Done}
use Rattle.cluster_node.specs.declared.packets.Packet.{Packet}
use Rattle.cluster_node.specs.declared.events.Event.{Event}
use Rattle.cluster_node.specs.declared.events.LogEntry.{LogEntry}
use Rattle.cluster_node.specs.Rules.{Rules}
use Rattle.cluster_node.specs.Book.{serving_under, taken}
use Rattle.cluster_node.specs.Record.{installed_of, lines_of, serve_verdict, newest_of, refusals_of, placed_count}
use Rattle.cluster_core.specs.Runs.{verdicts, say, packet_of}
use Rattle.cluster_node.specs.Records.{lines_at, node_of, of_node}
use Rattle.cluster_core.specs.Apart.{Handling, Popped, serving, greatest, settled}
use Rattle.cluster_core.specs.Blocks.{Ask, serves, own, past_after}

-- a serving's verdict depends on the worker's own lines and the versions installed on its node alone
abbrev pub ServesDependOnOwnLines : Type 0
ServesDependOnOwnLines = (rules : Rules) (a b : List LogEntry) (n w v : ℕ) (r : Bool) → lines_of w a ≡ lines_of w b → installed_of a ≡ installed_of b →
    serve_verdict rules a n w v r ≡ serve_verdict rules b n w v r

-- the outcomes of servings of one worker, one after another, are what its own lines say, and the rest follows the record
-- with them
abbrev pub ServesStandInBlocks : Type 0
ServesStandInBlocks = (rules : Rules) (n w : ℕ) → n < rules.nodes → (packets : List Packet) (past : List LogEntry) (asks : List Ask) (rest : List Event) →
    verdicts rules past packets (serves n w asks ++ rest) ≡ own rules (installed_of (of_node n past)) (lines_at past n w) n w asks
    ++ verdicts rules (past_after rules past n w asks) packets rest

-- they leave the lines of every other worker, and the installed versions
abbrev pub BlocksLeaveOthers : Type 0
BlocksLeaveOthers = (rules : Rules) (n w : ℕ) → n < rules.nodes → (u : ℕ) → (w ≡ u → ⊥) → (past : List LogEntry) (asks : List Ask) →
    (lines_at (past_after rules past n w asks) n u ≡ lines_at past n u)
    × (installed_of (of_node n (past_after rules past n w asks)) ≡ installed_of (of_node n past))

-- the record after some events
abbrev pub record_after : Rules → List LogEntry → List Packet → List Event → List LogEntry
record_after rules past packets [] = past
record_after rules past packets (e ∷ es) = record_after rules (say rules past e (packet_of packets e) ∷ past) packets es

-- Events leave the record of every node that none of them names. So they leave all that is read off it: the newest version,
-- the lives, the cursor of steering, and how many packets were placed and served.
abbrev pub EventsLeaveOtherNodes : Type 0
EventsLeaveOtherNodes = (rules : Rules) (packets : List Packet) (m : ℕ) (past : List LogEntry) (es : List Event) → All (λ e. node_of e ≡ m → ⊥) es →
    of_node m (record_after rules past packets es) ≡ of_node m past

-- servings of one worker leave what arrivals and installations of its node are judged by
pub record LeavesArrivals (rules : Rules) (had has : List LogEntry) : Type 0 where
  pub newest : newest_of has ≡ newest_of had
  pub cursor : refusals_of rules has ≡ refusals_of rules had
  pub placed : placed_count has ≡ placed_count had

abbrev pub BlocksLeaveArrivals : Type 0
BlocksLeaveArrivals = (rules : Rules) (n w : ℕ) (past : List LogEntry) (asks : List Ask) →
    LeavesArrivals rules (of_node n past) (of_node n (past_after rules past n w asks))

-- All packets are placed before all servings. Then the outcome of the next serving of a worker that popped the first packets
-- in order is what its forwarder answers after its own servings.
abbrev pub ServesFollowPackets : Type 0
ServesFollowPackets = (rules : Rules) (items : List Item) (done : List Handling) (i : Item) (v : ℕ) (r : Bool) → Popped items done →
    slice_get items (length done) ≡ Some i →
    taken rules (settled items done) v r ≡ (if nat_lt v i.floor || nat_lt v (greatest done) then Behind
    else Done i (told_after rules.pick rules.capacity rules.idle (told rules.pick rules.capacity rules.idle (map (serving rules) done))
    (serving_under (rules.ups v) v i r)).choice)
