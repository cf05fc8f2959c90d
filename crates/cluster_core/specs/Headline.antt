-- The promises over any list of events, in terms of the packets that were sent.
use Rattle.std.specs.Prelude.{◌≡◌, ℕ, true, List, [], ◌∷◌, Option, Some, None, max, slice_get}
use Rattle.five_tuple.specs.declared.Flow.{Flow}
use Rattle.pool_versions.specs.declared.backend.Backend.{Backend}
use Rattle.connection_table.specs.declared.table.Entry.{Entry}
use Rattle.connection_table.specs.Touches.{standing}
use Rattle.selection.specs.Candidates.{Candidates}
use Rattle.selection.specs.Readied.{keeps}
use Rattle.forwarder.specs.Serving.{Pick, Reply, clock_of, is_up, touches, told}
use Rattle.cluster_node.specs.declared.serving.Item.{Item}
use Rattle.cluster_node.specs.Book.{Line, next_item, servings}
use Rattle.cluster_node.specs.declared.packets.Packet.{Packet}
use Rattle.cluster_node.specs.declared.events.Event.{Event}
use Rattle.cluster_node.specs.declared.events.Event.TheVariants.{Install, Arrive, Serve, Restart}
use Rattle.cluster_node.specs.declared.outcomes.Outcome.{Outcome}
use Rattle.cluster_node.specs.declared.outcomes.Outcome.TheVariants.{Forward}
use Rattle.cluster_node.specs.Rules.{Rules}
use Rattle.cluster_node.specs.declared.events.LogEntry.{LogEntry}
use Rattle.cluster_node.specs.Record.{accepted}
use Rattle.cluster_core.specs.Runs.{packet_of}
use Rattle.cluster_node.specs.Records.{lines_at}

-- the scheme's backend among these
abbrev pub picked : Pick → Flow → Option (Candidates) → Option Backend
picked pick x None = None
picked pick x (Some ups) = pick ups x 0

-- the backend of a flow under a version, for a scheme to which the turn doesn't matter
abbrev pub pick_under : Rules → ℕ → Flow → Option Backend
pick_under rules v x = picked rules.pick x (rules.ups v x)

-- among the outcomes a packet of the flow is sent to the backend, chosen under the version
pub record Sent (outs : List Outcome) (x : Flow) (b : Backend) (v : ℕ) : Type 0 where
  pub place : ℕ
  pub node : ℕ
  pub worker : ℕ
  pub packet : ℕ
  pub there : slice_get outs place ≡ Some (Forward node worker packet x b v)

-- AGREEMENT. Two packets of one flow may have been sent to different backends, by any forwarders. Then the choices were made
-- under versions that pick these backends, and so under versions that differ for the flow.
abbrev pub Agreement : Rules → List Outcome → Type 0
Agreement rules outs = (x : Flow) (b₁ b₂ : Backend) (v₁ v₂ : ℕ) → Sent outs x b₁ v₁ → Sent outs x b₂ v₂ → (b₁ ≡ b₂ → ⊥) →
    (pick_under rules v₁ x ≡ Some b₁) × (pick_under rules v₂ x ≡ Some b₂) × (pick_under rules v₁ x ≡ pick_under rules v₂ x → ⊥) × (v₁ ≡ v₂ → ⊥)

-- the clock of a forwarder while it serves its next packet
abbrev pub clock_at : List Reply → Option Item → ℕ
clock_at ts None = clock_of ts
clock_at ts (Some i) = max (clock_of ts) i.at

-- the flow's entry that stands then, for a worker with these lines
abbrev pub stands_next : Rules → List Line → Option Item → Flow → Option Entry
stands_next rules ls o x =
    let ts = told rules.pick rules.capacity rules.idle (servings rules ls) in
    standing rules.capacity rules.idle (clock_at ts o) x (touches ts)

-- The entry that stands for a flow on a forwarder as it serves its next packet. It is the flow's last touch there, while
-- fewer other flows than the capacity were touched after it. Where a limit is set, the clock less the clock at that touch is
-- also at most the limit.
abbrev pub entry_at : Rules → List LogEntry → ℕ → ℕ → Flow → Option Entry
entry_at rules past n w x = stands_next rules (lines_at past n w) (next_item (lines_at past n w)) x

-- a backend is up for a flow under a version
pub record UpUnder (rules : Rules) (v : ℕ) (x : Flow) (b : Backend) : Type 0 where
  pub ups : Candidates
  pub known : rules.ups v x ≡ Some ups
  pub up : is_up b ups ≡ true

-- a backend is up or drains for a flow under a version
pub record KeptUnder (rules : Rules) (v : ℕ) (x : Flow) (b : Backend) : Type 0 where
  pub ups : Candidates
  pub known : rules.ups v x ≡ Some ups
  pub kept : keeps b ups ≡ true

-- KEEPING. An entry may stand for the flow of the packet that an accepted serving takes, and its backend be up or drain
-- under the serving's version. Then the packet is sent there, with the entry's origin.
abbrev pub Keeps : Rules → List LogEntry → Event → Outcome → Type 0
Keeps rules past (Install n v) o = Unit {0}
Keeps rules past (Arrive n k marks) o = Unit {0}
Keeps rules past (Restart n) o = Unit {0}
Keeps rules past (Serve n w v r) o = (i : Item) (e : Entry) → accepted o ≡ true → next_item (lines_at past n w) ≡ Some i →
    entry_at rules past n w i.flow ≡ Some e → KeptUnder rules v i.flow e.backend →
    o ≡ Forward n w i.packet i.flow e.backend e.version

-- the promise holds at each event, with the record of all before it
abbrev pub Keeping : Rules → List LogEntry → List Packet → List Event → List Outcome → Type 0
Keeping rules past packets [] os = Unit {0}
Keeping rules past packets (e ∷ es) [] = ⊥
Keeping rules past packets (e ∷ es) (o ∷ os) = Keeps rules past e o
    × Keeping rules (record { event = e; packet = packet_of packets e; outcome = o } ∷ past) packets es os

-- Of the same, what is said where the backend is up under the serving's version, whoever drains.
abbrev pub KeepsUps : Rules → List LogEntry → Event → Outcome → Type 0
KeepsUps rules past (Install n v) o = Unit {0}
KeepsUps rules past (Arrive n k marks) o = Unit {0}
KeepsUps rules past (Restart n) o = Unit {0}
KeepsUps rules past (Serve n w v r) o = (i : Item) (e : Entry) → accepted o ≡ true → next_item (lines_at past n w) ≡ Some i →
    entry_at rules past n w i.flow ≡ Some e → UpUnder rules v i.flow e.backend →
    o ≡ Forward n w i.packet i.flow e.backend e.version

-- it holds at each event, with the record of all before it
abbrev pub KeepingUps : Rules → List LogEntry → List Packet → List Event → List Outcome → Type 0
KeepingUps rules past packets [] os = Unit {0}
KeepingUps rules past packets (e ∷ es) [] = ⊥
KeepingUps rules past packets (e ∷ es) (o ∷ os) = KeepsUps rules past e o
    × KeepingUps rules (record { event = e; packet = packet_of packets e; outcome = o } ∷ past) packets es os
