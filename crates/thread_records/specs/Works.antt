-- What a worker did in one life, by its own packets and the versions that it used.
use Rattle.std.specs.Prelude.{◌≡◌, ℕ, ◌≤◌, Bool, true, List, [], ◌∷◌, map, Option, All}
use Rattle.five_tuple.specs.declared.Flow.{Flow}
use Rattle.pool_versions.specs.Pool.{Pools}
use Rattle.forwarder.specs.Forwarding.{Forwarding}
use Rattle.selection.specs.Candidates.{Candidates, candidates_under}
use Rattle.forwarder.specs.Serving.{Pick, Serving, told, told_after, forwarding_of}
use Rattle.cluster_node.specs.Rules.{Rules}
use Rattle.cluster_node.specs.Book.{serving_under}
use Rattle.cluster_core.specs.Apart.{Handling, greatest}
use Rattle.cluster_core.specs.Setups.{Fixed}
use Rattle.handled_list.specs.declared.handled.Handled.{Handled}
use Rattle.thread_records.specs.Sources.{MadeOf, IsFrom}
use Rattle.thread_records.specs.Workers.{Limits, Working, limits_in, limits_of}

-- the packet, the version, and whether a new entry was refused
abbrev pub handling_of : Handled → Handling
handling_of h = record { item = h.item; version = h.version; refused = h.unstored }

abbrev pub serving_by : (ℕ → Flow → Option Candidates) → Handled → Serving
serving_by here h = serving_under (here h.version) h.version h.item h.unstored

-- one list turned round in front of another
abbrev pub onto : List Handled → List Handled → List Handled
onto earlier [] = earlier
onto earlier (h ∷ hs) = onto (h ∷ earlier) hs

-- with the newest in front
abbrev pub newest_first : List Handled → List Handled
newest_first hs = onto [] hs

-- A packet was handled as one forwarder does that handled those before (the newest in front). Its version is known and not
-- below the packet's floor, or one used before. The choice is the one that the forwarder reports.
pub record Fits (pick : Pick) (limits : Limits) (has : ℕ → Bool) (here : ℕ → Flow → Option Candidates) (earlier : List Handled) (h : Handled) : Type 0 where
  pub known : has h.version ≡ true
  pub floor : h.item.floor ≤ h.version
  pub ascends : greatest (map handling_of earlier) ≤ h.version
  pub answer : h.choice ≡ (told_after pick limits.capacity limits.idle (told pick limits.capacity limits.idle (map (serving_by here) earlier))
      (serving_by here h)).choice

-- so were these, one after another
abbrev pub Follow : Pick → Limits → (ℕ → Bool) → (ℕ → Flow → Option Candidates) → List Handled → List Handled → Type 0
Follow pick limits has here earlier [] = Unit {0}
Follow pick limits has here earlier (h ∷ hs) = Fits pick limits has here earlier h × Follow pick limits has here (h ∷ earlier) hs

-- These candidates, and this pick, are what each of some versions gives.
abbrev pub Agrees : {S : Type 0} → (S → ℕ → Pick) → Pick → (ℕ → Flow → Option Candidates) → List (MadeOf S) → Type 0
Agrees pick_of pick here ms = All (λ m. (pick_of m.scheme m.size ≡ pick) × ((x : Flow) → here m.version.number x ≡ candidates_under m.version x)) ms

-- every version is known
abbrev pub always : ℕ → Bool
always v = true

-- a worker's record as contracts see it
pub record WorkView (S : Type 0) : Type 0 where
  -- what the versions that it used were made from, the first used in front
  pub made : List (MadeOf S)
  -- the greatest version used
  pub used : ℕ
  pub forwarding : Forwarding
  -- what it handled, the first in front
  pub handled : List Handled

-- the record of a worker that used these and handled these
abbrev pub working_view : {S : Type 0} → List (MadeOf S) → Working → List Handled → WorkView S
working_view made worker handled = record { made = made; used = worker.used; forwarding = worker.forwarding; handled = handled }

-- all that a worker handled is what one forwarder answers, by every pick and all candidates that are those of the versions
-- that it used
pub record Worked {S : Type 0} (pick_of : S → ℕ → Pick) (w : WorkView S) : Type 0 where
  pub used_is : w.used ≡ greatest (map handling_of (newest_first w.handled))
  pub stands : (pick : Pick) (here : ℕ → Flow → Option Candidates) → Agrees pick_of pick here w.made →
      w.forwarding ≡ forwarding_of pick w.forwarding.capacity w.forwarding.idle (map (serving_by here) (newest_first w.handled))
  pub follow : (pick : Pick) (here : ℕ → Flow → Option Candidates) → Agrees pick_of pick here w.made →
      Follow pick (limits_of w.forwarding) always here [] w.handled

-- a worker's record is one of a run with these rules: the versions that it used have their pick and their candidates
pub record IsOf {S : Type 0} (pick_of : S → ℕ → Pick) (rules : Rules) (w : WorkView S) : Type 0 where
  pub limits : limits_of w.forwarding ≡ limits_in rules
  pub agrees : Agrees pick_of rules.pick rules.ups w.made

-- It is one of a worker of a cluster. Its table has the cluster's capacity and idle limit, and each version that it used is
-- the catalogue's, prepared for the cluster.
pub record IsWorkerOf {S H : Type 0} (eq : S → S → Bool) (setup : Fixed S H) (pools : Pools) (w : WorkView S) : Type 0 where
  pub capacity : w.forwarding.capacity ≡ setup.capacity
  pub idle : w.forwarding.idle ≡ setup.idle
  pub made : All (IsFrom eq setup pools) w.made
