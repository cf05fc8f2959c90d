-- A node's journal: the history that its driver writes, and what the next events depend on.
use Rattle.std.specs.Prelude.{◌≡◌, ◌≤◌, ◌<◌, ◌%◌, ℕ, ◌+◌, Bool, false, true, List, [], ◌∷◌, ◌++◌, length, map, take, slice_index_or, slice_set, replicate}
use Rattle.std.specs.Prelude.{nat_lt, if◌then◌else◌}
use Rattle.five_tuple.specs.declared.Flow.{Flow}
use Rattle.steering.specs.Steering.{Steering, home_of, refuses, place_for, cursor_after}
use Rattle.steering.specs.declared.Placed.{Placed as Placing}
use Rattle.steering.specs.declared.Placed.TheVariants as placings
use Rattle.cluster_node.specs.declared.serving.Item.{Item}
use Rattle.cluster_node.specs.declared.packets.Packet.{Packet}
use Rattle.cluster_node.specs.declared.events.Event.{Event}
use Rattle.cluster_node.specs.declared.events.Event.TheVariants.{Install, Arrive, Restart}
use Rattle.cluster_node.specs.declared.outcomes.Outcome.{Outcome}
use Rattle.cluster_node.specs.declared.outcomes.Outcome.TheVariants.{Installed, Placed, Dropped, Restarted, Refused}
use Rattle.cluster_node.specs.declared.outcomes.Reason.TheVariants.{UnknownVersion, NotNewer}
use Rattle.cluster_node.specs.declared.outcomes.Cause.TheVariants.{RingsFull}
use Rattle.cluster_node.specs.Rules.{Rules}
use Rattle.cluster_node.specs.Record.{newest_of, installed_of, refusals_of, lines_of, placed_count, served_count}
use Rattle.cluster_core.specs.Runs.{verdicts}
use Rattle.cluster_core.specs.Apart.{Popped, puts_on, settled}
use Rattle.handled_list.specs.declared.handled.Handled.{Handled}
use Rattle.thread_records.specs.Losses.{losses}
use Rattle.thread_records.specs.Workers.{limits_in}
use Rattle.thread_records.specs.Works.{handling_of, newest_first, Fits}
use Rattle.thread_records.specs.Histories.{past_of, AreOf, commands_of, serve_of, outcome_of, ServesAreAccepted, MarksAreDue, stage_of, is_by_lives}

pub record JournalView : Type 0 where
  pub node : ℕ
  -- the places of a ring
  pub ring : ℕ
  pub newest : ℕ
  -- the newest in front
  pub installed : List ℕ
  pub steering : Steering
  -- for each worker what was placed on it in this life, the first in front
  pub placed : List (List Item)
  pub events : List Event
  pub outcomes : List Outcome
  -- a ring refused before it had taken as many packets as it has places
  pub early : Bool

abbrev pub all_placed : List (List Item) → ℕ
all_placed [] = 0
all_placed (is ∷ iss) = length is + all_placed iss

abbrev pub placed_on : List (List Item) → ℕ → List Item
placed_on iss w = slice_index_or iss w []

-- what holds of a journal at any time
pub record Tells (rules : Rules) (packets : List Packet) (j : JournalView) : Type 0 where
  pub there : j.node < rules.nodes
  pub some : 0 < rules.workers
  pub workers : j.steering.workers ≡ rules.workers
  pub lists : length j.placed ≡ rules.workers
  pub told : j.outcomes ≡ verdicts rules [] packets j.events
  pub own : AreOf j.node j.events
  pub newest : j.newest ≡ newest_of (past_of rules packets j.node j.events)
  pub installed : j.installed ≡ installed_of (past_of rules packets j.node j.events)
  pub came : placed_count (past_of rules packets j.node j.events) ≡ all_placed j.placed
  pub few : all_placed j.placed ≤ length j.events
  pub by_lives : is_by_lives 0 j.events ≡ true
  pub accepted : ServesAreAccepted (past_of rules packets j.node j.events)
  pub due : j.early ≡ false → MarksAreDue j.ring (past_of rules packets j.node j.events)

-- before the servings of a life
pub record Drives (rules : Rules) (packets : List Packet) (j : JournalView) : Type 0 where
  pub tells : Tells rules packets j
  pub cursor : j.steering.cursor ≡ refusals_of rules (past_of rules packets j.node j.events) % rules.workers
  pub lines : (w : ℕ) → lines_of w (past_of rules packets j.node j.events) ≡ puts_on [] (placed_on j.placed w)
  pub gone : served_count (past_of rules packets j.node j.events) ≡ 0
  pub stage : stage_of 0 j.events ≡ 0

-- among the servings: of the workers below w all, and of worker w those, the newest in front. So many packets of the
-- workers below w were left
pub record Closes (rules : Rules) (packets : List Packet) (w : ℕ) (earlier : List Handled) (left : ℕ) (j : JournalView) : Type 0 where
  pub tells : Tells rules packets j
  pub popped : Popped (placed_on j.placed w) (map handling_of earlier)
  pub own_lines : lines_of w (past_of rules packets j.node j.events) ≡ settled (placed_on j.placed w) (map handling_of earlier)
  pub other_lines : (u : ℕ) → w < u → lines_of u (past_of rules packets j.node j.events) ≡ puts_on [] (placed_on j.placed u)
  pub gone : served_count (past_of rules packets j.node j.events) + left ≡ all_placed (take w j.placed) + length earlier
  pub stage : stage_of 0 j.events ≤ w + 1

-- one more event, and its outcome
abbrev pub with_event : JournalView → Event → Outcome → JournalView
with_event j e o = record j { events = j.events ++ e ∷ []; outcomes = j.outcomes ++ o ∷ [] }

-- after an installation, by whether the catalogue has the version
abbrev pub with_install : Bool → ℕ → JournalView → JournalView
with_install known v j =
    if known then
    if nat_lt j.newest v then with_event (record j { newest = v; installed = v ∷ j.installed }) (Install j.node v) Installed
    else with_event j (Install j.node v) (Refused NotNewer)
    else with_event j (Install j.node v) (Refused UnknownVersion)

-- what an attempt to place a packet resulted in: the marks of the rings that refused it, and where it went
pub record Attempt : Type 0 where
  pub marks : List Bool
  pub placing : Placing
  pub steering : Steering
  pub early : Bool

abbrev pub put_on : List (List Item) → ℕ → Item → List (List Item)
put_on iss w i = slice_set iss w (placed_on iss w ++ i ∷ [])

abbrev pub with_placing : ℕ → Flow → ℕ → Attempt → Placing → JournalView → JournalView
with_placing k x t a placings.RingsFull j = with_event (record j { steering = a.steering; early = a.early }) (Arrive j.node k a.marks) (Dropped k RingsFull)
with_placing k x t a (placings.Worker w) j =
    with_event (record j { steering = a.steering; early = a.early; placed = put_on j.placed w (record { packet = k; flow = x; at = t; floor = j.newest }) })
    (Arrive j.node k a.marks) (Placed w j.newest)

-- the attempt is one of a steerer, and a ring refused too early only where that is said
pub record IsAttempt (plain : List ℕ → ℕ) (x : Flow) (j : JournalView) (a : Attempt) : Type 0 where
  pub placing : a.placing ≡ place_for a.marks j.steering.workers (home_of plain j.steering.workers x) j.steering.cursor
  pub cursor : a.steering.cursor ≡ cursor_after (refuses a.marks (home_of plain j.steering.workers x)) j.steering.workers j.steering.cursor
  pub workers : a.steering.workers ≡ j.steering.workers
  pub due : a.early ≡ false → (j.early ≡ false) × ((w : ℕ) → refuses a.marks w ≡ true → j.ring ≤ length (placed_on j.placed w))

abbrev pub no_marks : List Bool
no_marks = replicate 16 false

-- after a serving
abbrev pub with_serve : ℕ → Handled → JournalView → JournalView
with_serve w h j = with_event j (serve_of j.node w h) (outcome_of j.node w h)

-- after the life ended with so many packets left
abbrev pub with_restart : ℕ → JournalView → JournalView
with_restart left j = with_event (record j {
  steering = record { workers = j.steering.workers; cursor = 0; at_home = false; left = [] };
  placed = map (λ is. []) j.placed;
}) (Restart j.node) (Restarted left)

-- the journal of a node that has done nothing
abbrev pub fresh_journal : ℕ → ℕ → ℕ → JournalView
fresh_journal node ring workers = record {
  node = node;
  ring = ring;
  newest = 0;
  installed = [];
  steering = record { workers = workers; cursor = 0; at_home = false; left = [] };
  placed = replicate workers [];
  events = [];
  outcomes = [];
  early = false;
}

-- each of these packets was handled as one forwarder does that handled those before, by the rules, wherever its version
-- is one that is known
abbrev pub AllFit : Rules → List Handled → Type 0
AllFit rules hs = (had : ℕ → Bool) (i : ℕ) (d : Handled) → i < length hs → had (slice_index_or hs i d).version ≡ true →
    Fits rules.pick (limits_in rules) had rules.ups (newest_first (take i hs)) (slice_index_or hs i d)

-- so were those of each worker
abbrev pub AllFitIn : Rules → List (List Handled) → Type 0
AllFitIn rules hss = (w : ℕ) → w < length hss → AllFit rules (slice_index_or hss w [])

-- the one follows the other by servings alone
pub record IsServed (j k : JournalView) : Type 0 where
  pub node : k.node ≡ j.node
  pub ring : k.ring ≡ j.ring
  pub newest : k.newest ≡ j.newest
  pub installed : k.installed ≡ j.installed
  pub placed : k.placed ≡ j.placed
  pub commands : commands_of k.events ≡ commands_of j.events
  pub lost : losses k.outcomes ≡ losses j.outcomes
