-- What the nodes of a cluster are asked to do.
use Rattle.std.specs.Prelude.{ℕ, Bool, false, List}
use Rattle.pool_versions.specs.Pool.{Pools}
use Rattle.cluster_core.specs.Setups.{Fixed}
use Rattle.cluster_node.specs.declared.packets.Packet.{Packet}
use Rattle.thread_records.specs.declared.command.Command.{Command}
use Rattle.thread_roles.specs.Going.{Asked, asked_by}

-- all of them, each with its commands
pub record AllAsked (S H : Type 0) : Type 0 where
  pub setup : Fixed S H
  pub catalogue : Pools
  pub packets : List Packet
  pub ring : ℕ
  -- their drivers wait at full rings
  pub paced : Bool
  pub commands : List (List Command)

abbrev pub asked_each : {S H : Type 0} → Fixed S H → Pools → List Packet → ℕ → Bool → List (List Command) → AllAsked S H
asked_each setup pools packets ring paced commands = record {
  setup = setup;
  catalogue = pools;
  packets = packets;
  ring = ring;
  paced = paced;
  commands = commands;
}

-- the same of drivers that don't wait
abbrev pub asked_all : {S H : Type 0} → Fixed S H → Pools → List Packet → ℕ → List (List Command) → AllAsked S H
asked_all setup pools packets ring commands = asked_each setup pools packets ring false commands

-- one of them, with these commands
abbrev pub asked_one : {S H : Type 0} → AllAsked S H → ℕ → List Command → Asked S H
asked_one all node commands = asked_by all.setup all.catalogue all.packets node all.ring all.paced commands
