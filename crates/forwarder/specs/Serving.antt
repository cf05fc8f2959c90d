-- What a forwarder answers to a packet, read off the packets that it served before.
use Rattle.std.specs.Prelude.{ℕ, ◌+◌, ◌%◌, ◌^◌, max, Bool, true, false, List, [], ◌∷◌, take, Option, Some, None, if◌then◌else◌, option_map}
use Rattle.std.specs.List.{list_any}
use Rattle.five_tuple.specs.declared.Flow.{Flow}
use Rattle.pool_versions.specs.declared.backend.Backend.{Backend}
use Rattle.connection_table.specs.declared.table.Entry.{Entry}
use Rattle.selection.specs.Candidates.{Candidates}
use Rattle.selection.specs.Readied.{Readied, ReadiedService, ready_for, same_backend, keeps}
use Rattle.connection_table.specs.Touches.{Touch, in_time, last_touch, newest_each, standing}
use Rattle.connection_table.specs.Recency.{at_clock, stored}
use Rattle.forwarder.specs.Forwarding.{Forwarding}
use Rattle.forwarder.specs.declared.Choice.{Choice}
use Rattle.forwarder.specs.declared.Choice.TheVariants.{Forward, NoService, NoBackend}

-- a scheme's answer: of the candidates, for a flow, at a turn
abbrev pub Pick : Type 0
Pick = Candidates → Flow → ℕ → Option Backend

-- A packet's serving: its flow, its time, the version, and who is up for the flow under it (None: no service). Also whether
-- a new entry is refused.
pub record Serving : Type 0 where
  pub flow : Flow
  pub at : ℕ
  pub version : ℕ
  pub ups : Option Candidates
  pub refused : Bool

-- what is reported of a serving: the answer, whether the scheme was asked, the touch, if it is one, and the clock
pub record Reply : Type 0 where
  pub choice : Choice
  pub asked : Bool
  pub touch : Option Touch
  pub clock : ℕ

-- a prepared version's candidates for a flow; None: it has no service for the flow
abbrev pub ups_in : {S : Type 0} → Readied S → Flow → Option Candidates
ups_in {S} v x = option_map (λ (r : ReadiedService S). r.ups) (ready_for x v.services)

-- whether a backend is one of those that are up, by name and address
abbrev pub is_up : Backend → Candidates → Bool
is_up b ups = list_any (same_backend b) ups.backends

-- the entry where its backend is up or drains
abbrev pub kept : Option Entry → Candidates → Option Entry
kept None ups = None
kept (Some e) ups = if keeps e.backend ups then Some e else None

-- nobody is up: an entry that stands stays as it was, and is touched
abbrev pub touch_unanswered : ℕ → Flow → Option Entry → Option Touch
touch_unanswered clock x None = None
touch_unanswered clock x (Some e) = Some (x, at_clock clock e)

-- an entry that stands is replaced, a new one is made unless it is refused
abbrev pub touch_answered : ℕ → Serving → Option Entry → Backend → Option Touch
touch_answered clock s None b = if s.refused then None else Some (s.flow, record { backend = b; version = s.version; last = clock })
touch_answered clock s (Some e) b = Some (s.flow, record { backend = b; version = s.version; last = clock })

-- the scheme was asked
abbrev pub told_asked : ℕ → Serving → Option Entry → Option Backend → Reply
told_asked clock s stood None = record { choice = NoBackend; asked = true; touch = touch_unanswered clock s.flow stood; clock = clock }
told_asked clock s stood (Some b) = record { choice = Forward b s.version; asked = true; touch = touch_answered clock s stood b; clock = clock }

-- by the entry where its backend is up or drains, else by the scheme
abbrev pub told_by : Pick → ℕ → Serving → Candidates → Option Entry → Option Entry → ℕ → Reply
told_by pick clock s ups stood (Some e) turn = record {
  choice = Forward e.backend e.version;
  asked = false;
  touch = Some (s.flow, at_clock clock e);
  clock = clock;
}
told_by pick clock s ups stood None turn = told_asked clock s stood (pick ups s.flow turn)

abbrev pub told_under : Pick → ℕ → Serving → Option Candidates → Option Entry → ℕ → Reply
told_under pick clock s None stood turn = record { choice = NoService; asked = false; touch = None; clock = clock }
told_under pick clock s (Some ups) stood turn = told_by pick clock s ups stood (kept stood ups) turn

-- a serving at a clock, where this entry stands for its flow, at this turn
abbrev pub serve_as : Pick → ℕ → Serving → Option Entry → ℕ → Reply
serve_as pick clock s stood turn = told_under pick clock s s.ups stood turn

-- the touches among what was reported, newest first
abbrev pub with_touch : Option Touch → List Touch → List Touch
with_touch None ts = ts
with_touch (Some t) ts = t ∷ ts

abbrev pub touches : List Reply → List Touch
touches [] = []
touches (t ∷ ts) = with_touch t.touch (touches ts)

-- how often the scheme was asked
abbrev pub asked_count : List Reply → ℕ
asked_count [] = 0
asked_count (t ∷ ts) = if t.asked then asked_count ts + 1 else asked_count ts

-- the clock of the last one
abbrev pub clock_of : List Reply → ℕ
clock_of [] = 0
clock_of (t ∷ ts) = t.clock

-- what is reported of a serving at a clock after others
abbrev pub told_at : Pick → ℕ → Option ℕ → List Reply → Serving → ℕ → Reply
told_at pick capacity idle past s clock = serve_as pick clock s (standing capacity idle clock s.flow (touches past)) (asked_count past % 2 ^ 64)

-- what is reported of a serving after others: its clock is the greatest time of the packets so far, its own included
abbrev pub told_after : Pick → ℕ → Option ℕ → List Reply → Serving → Reply
told_after pick capacity idle past s = told_at pick capacity idle past s (max (clock_of past) s.at)

-- what is reported of a forwarder's servings in one life, newest first
abbrev pub told : Pick → ℕ → Option ℕ → List Serving → List Reply
told pick capacity idle [] = []
told pick capacity idle (s ∷ earlier) = told_after pick capacity idle (told pick capacity idle earlier) s ∷ told pick capacity idle earlier

-- the forwarder that has served these
abbrev pub forwarding_of : Pick → ℕ → Option ℕ → List Serving → Forwarding
forwarding_of pick capacity idle past = record {
  capacity = capacity;
  idle = idle;
  entries = take capacity (newest_each (touches (told pick capacity idle past)));
  turn = asked_count (told pick capacity idle past) % 2 ^ 64;
  clock = clock_of (told pick capacity idle past);
}

-- the clock of a forwarder while it serves a packet of this time
abbrev pub clock_with : Forwarding → ℕ → ℕ
clock_with f at = max f.clock at

-- the flow's entry that stands in its table then
abbrev pub stands_in : Forwarding → Flow → ℕ → Option Entry
stands_in f x at = in_time f.idle (clock_with f at) (last_touch x f.entries)

-- what a forwarder reports of a serving
abbrev pub told_in : Pick → Forwarding → Serving → Reply
told_in pick f s = serve_as pick (clock_with f s.at) s (stands_in f s.flow s.at) f.turn

-- a touch in the bounded list
abbrev pub entries_after : ℕ → Option Touch → List Touch → List Touch
entries_after capacity None ts = ts
entries_after capacity (Some t) ts = stored capacity t.0 t.1 ts

-- the forwarder after this was reported
abbrev pub after_told : Reply → Forwarding → Forwarding
after_told t f = record {
  capacity = f.capacity;
  idle = f.idle;
  entries = entries_after f.capacity t.touch f.entries;
  turn = if t.asked then (f.turn + 1) % 2 ^ 64 else f.turn;
  clock = t.clock;
}

-- the serving of a flow's packet under a prepared version
abbrev pub serving_of : {S : Type 0} → Readied S → Flow → ℕ → Bool → Serving
serving_of v x at refused = record { flow = x; at = at; version = v.number; ups = ups_in v x; refused = refused }

abbrev pub IsForward : Choice → Type 0
IsForward (Forward b v) = Unit {0}
IsForward NoService = ⊥
IsForward NoBackend = ⊥
