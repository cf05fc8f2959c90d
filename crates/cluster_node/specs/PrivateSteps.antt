-- One event of a node, by what the node keeps.
use Rattle.std.specs.Prelude.{ℕ, ◌==◌, Bool, false, List, [], ◌∷◌, ◌++◌, length, map, Option, Some, None, if◌then◌else◌, nat_lt, slice_get, slice_set}
use Rattle.std.specs.List.{list_any}
use Rattle.five_tuple.specs.declared.Flow.{Flow}
use Rattle.forwarder.specs.Serving.{Pick, ups_in}
use Rattle.selection.specs.Readied.{Readied}
use Rattle.steering.specs.declared.Placed.{Placed as Placing}
use Rattle.steering.specs.declared.Placed.TheVariants as placings
use Rattle.cluster_node.specs.declared.serving.Item.{Item}
use Rattle.cluster_node.specs.WorkerView.{WorkerView}
use Rattle.cluster_node.specs.Book.{step_of}
use Rattle.steering.specs.Steering.{home_of, refuses, place_for, cursor_after}
use Rattle.cluster_node.specs.NodeView.{NodeView}
use Rattle.cluster_node.specs.declared.packets.Packet.{Packet}
use Rattle.cluster_node.specs.declared.packets.Packet.TheVariants.{Good, Bad}
use Rattle.cluster_node.specs.declared.outcomes.Outcome.{Outcome}
use Rattle.cluster_node.specs.declared.outcomes.Outcome.TheVariants.{Installed, Placed, Forward, Dropped, Restarted, Refused}
use Rattle.cluster_node.specs.declared.outcomes.Passed.{Passed}
use Rattle.cluster_node.specs.declared.outcomes.Passed.TheVariants.{Unplaced, Through}
use Rattle.cluster_node.specs.declared.outcomes.Reason.TheVariants.{NoWorker, NoPacket, UnknownVersion, NotNewer, Idle}
use Rattle.cluster_node.specs.declared.outcomes.Cause.TheVariants.{NoVersion, RingsFull}
use Rattle.cluster_node.specs.Record.{prepared_at, of_taken, cleared}

pub record NodeStep : Type 0 where
  pub outcome : Outcome
  pub after : NodeView

abbrev pub refuse : Outcome → NodeView → NodeStep
refuse o n = record { outcome = o; after = n }

abbrev pub install_step : Bool → NodeView → ℕ → NodeStep
install_step known n v =
    if known then
    if nat_lt n.newest v then record { outcome = Installed; after = record { newest = v; installed = v ∷ n.installed; cursor = n.cursor; workers = n.workers } }
    else refuse (Refused NotNewer) n
    else refuse (Refused UnknownVersion) n

abbrev pub put_at : Option WorkerView → List WorkerView → ℕ → Item → List WorkerView
put_at None ws w i = ws
put_at (Some u) ws w i = slice_set ws w (record { queue = u.queue ++ i ∷ []; used = u.used; forwarding = u.forwarding })

abbrev pub place_step : NodeView → ℕ → Flow → ℕ → ℕ → Placing → NodeStep
place_step n k x t c placings.RingsFull = record {
  outcome = Dropped k RingsFull;
  after = record { newest = n.newest; installed = n.installed; cursor = c; workers = n.workers };
}
place_step n k x t c (placings.Worker w) = record {
  outcome = Placed w n.newest;
  after = record {
    newest = n.newest;
    installed = n.installed;
    cursor = c;
    workers = put_at (slice_get n.workers w) n.workers w (record { packet = k; flow = x; at = t; floor = n.newest });
  };
}

abbrev pub arrive_on : (List ℕ → ℕ) → ℕ → NodeView → ℕ → List Bool → Flow → ℕ → NodeStep
arrive_on plain workers n k marks x t =
    if n.newest == 0 then refuse (Dropped k NoVersion) n
    else place_step n k x t
    (cursor_after (refuses marks (home_of plain workers x)) workers n.cursor)
    (place_for marks workers (home_of plain workers x) n.cursor)

abbrev pub arrive_step : (List ℕ → ℕ) → NodeView → ℕ → List Bool → Option Packet → NodeStep
arrive_step plain n k marks None = refuse (Refused NoPacket) n
arrive_step plain n k marks (Some (Bad c)) = refuse (Dropped k c) n
arrive_step plain n k marks (Some (Good x l t)) = arrive_on plain (length n.workers) n k marks x t

-- a worker's part of a serving
pub record OneStep : Type 0 where
  pub outcome : Outcome
  pub after : WorkerView

abbrev pub one_prepared : {S : Type 0} → (S → ℕ → Pick) → ℕ → ℕ → WorkerView → Option (Readied S) → Bool → OneStep
one_prepared pick_of n w u None r = record { outcome = Refused UnknownVersion; after = u }
one_prepared pick_of n w u (Some p) r = record {
  outcome = of_taken n w (step_of (pick_of p.scheme p.size) (λ x. ups_in p x) u p.number r).taken;
  after = (step_of (pick_of p.scheme p.size) (λ x. ups_in p x) u p.number r).after;
}

abbrev pub one_if : {S : Type 0} → (S → ℕ → Pick) → List (Readied S) → Bool → ℕ → ℕ → WorkerView → ℕ → Bool → OneStep
one_if pick_of ps installed n w u v r =
    if length u.queue == 0 then record { outcome = Refused Idle; after = u }
    else if installed then one_prepared pick_of n w u (prepared_at v ps) r
    else record { outcome = Refused UnknownVersion; after = u }

abbrev pub one_step : {S : Type 0} → (S → ℕ → Pick) → List (Readied S) → List ℕ → ℕ → ℕ → WorkerView → ℕ → Bool → OneStep
one_step pick_of ps installed n w u v r = one_if pick_of ps (list_any (λ j. j == v) installed) n w u v r

abbrev pub serve_at : {S : Type 0} → (S → ℕ → Pick) → List (Readied S) → NodeView → ℕ → ℕ → ℕ → Bool → Option WorkerView → NodeStep
serve_at pick_of ps n place w v r None = refuse (Refused NoWorker) n
serve_at pick_of ps n place w v r (Some u) = record {
  outcome = (one_step pick_of ps n.installed place w u v r).outcome;
  after = record {
    newest = n.newest;
    installed = n.installed;
    cursor = n.cursor;
    workers = slice_set n.workers w (one_step pick_of ps n.installed place w u v r).after;
  };
}

abbrev pub serve_step : {S : Type 0} → (S → ℕ → Pick) → List (Readied S) → NodeView → ℕ → ℕ → ℕ → Bool → NodeStep
serve_step pick_of ps n place w v r = serve_at pick_of ps n place w v r (slice_get n.workers w)

abbrev pub restarted : NodeView → NodeView
restarted n = record { newest = n.newest; installed = n.installed; cursor = 0; workers = map cleared n.workers }

-- a worker at which one packet more waits
abbrev pub with_item : WorkerView → Item → WorkerView
with_item u i = record { queue = u.queue ++ i ∷ []; used = u.used; forwarding = u.forwarding }

-- a packet that comes, and the serving that follows at once where it was placed, under the node's newest version
pub record PassStep : Type 0 where
  pub passed : Passed
  pub after : NodeView

abbrev pub served_at : ℕ → ℕ → NodeStep → PassStep
served_at w floor s = record { passed = Through w floor s.outcome; after = s.after }

abbrev pub pass_then : {S : Type 0} → (S → ℕ → Pick) → List (Readied S) → ℕ → NodeView → Outcome → PassStep
pass_then pick_of ps place n Installed = record { passed = Unplaced Installed; after = n }
pass_then pick_of ps place n (Placed w f) = served_at w f (serve_step pick_of ps n place w n.newest false)
pass_then pick_of ps place n (Forward m w k x b v) = record { passed = Unplaced (Forward m w k x b v); after = n }
pass_then pick_of ps place n (Dropped k c) = record { passed = Unplaced (Dropped k c); after = n }
pass_then pick_of ps place n (Restarted lost) = record { passed = Unplaced (Restarted lost); after = n }
pass_then pick_of ps place n (Refused r) = record { passed = Unplaced (Refused r); after = n }

abbrev pub pass_after : {S : Type 0} → (S → ℕ → Pick) → List (Readied S) → ℕ → NodeStep → PassStep
pass_after pick_of ps place s = pass_then pick_of ps place s.after s.outcome

abbrev pub pass_on : {S : Type 0} → (S → ℕ → Pick) → List (Readied S) → (List ℕ → ℕ) → NodeView → ℕ → ℕ → List Bool → Flow → ℕ → PassStep
pass_on pick_of ps plain n place k marks x t = pass_after pick_of ps place (arrive_on plain (length n.workers) n k marks x t)

abbrev pub pass_step : {S : Type 0} → (S → ℕ → Pick) → List (Readied S) → (List ℕ → ℕ) → NodeView → ℕ → ℕ → List Bool → Packet → PassStep
pass_step pick_of ps plain n place k marks p = pass_after pick_of ps place (arrive_step plain n k marks (Some p))
