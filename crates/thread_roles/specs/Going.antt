-- A journal that has obeyed some commands, and how far a life got in them.
use Rattle.std.specs.Prelude.{◌≡◌, ◌≤◌, ◌<◌, ◌+◌, ℕ, Bool, true, false, not, List, Option, Some, None, length, map, take, slice_get}
use Rattle.stats_book.specs.Counts.{Counted}
use Rattle.cluster_node.specs.Rules.{Rules}
use Rattle.cluster_core.specs.Setups.{Fixed}
use Rattle.pool_versions.specs.Pool.{Pools}
use Rattle.thread_roles.specs.Counts.{AreRead, Counts}
use Rattle.cluster_node.specs.declared.packets.Packet.{Packet}
use Rattle.thread_records.specs.declared.command.Command.{Command}
use Rattle.thread_records.specs.declared.command.Command.TheVariants.{Publish, Offer, Restart, Stop}
use Rattle.thread_records.specs.Histories.{commands_of, past_of, NoneWaits}
use Rattle.thread_records.specs.Journals.{JournalView, Tells, Drives}
use Rattle.thread_records.specs.Paced.{AreUnmarked}
use Rattle.thread_records.specs.Losses.{ending, as_written, drained_lives, losses, KeepDrained}

pub record Going (rules : Rules) (packets : List Packet) (commands : List Command) (n places : ℕ) (j : JournalView) : Type 0 where
  pub drives : Drives rules packets j
  pub obeyed : commands_of j.events ≡ map as_written commands
  pub kept : KeepDrained (drained_lives commands) (losses j.outcomes)
  pub own : j.node ≡ n
  pub ring : j.ring ≡ places

-- a command is there, and it is a stop
abbrev pub stops : Option Command → Bool
stops None = false
stops (Some (Publish v)) = false
stops (Some (Offer k)) = false
stops (Some Restart) = false
stops (Some Stop) = true

-- the commands from one place up to another were obeyed, and there a life ends: with a command that ends it, or with the list
pub record IsDriven (rules : Rules) (packets : List Packet) (commands : List Command) (n places start stop : ℕ) (j : JournalView) : Type 0 where
  pub going : Going rules packets (take stop commands) n places j
  pub onward : start ≤ stop
  pub within : stop ≤ length commands
  pub ends : stop < length commands → slice_get commands stop ≡ Some (ending (not (stops (slice_get commands stop))))

-- all was obeyed, and what was placed in the last life was served
pub record IsLast (rules : Rules) (packets : List Packet) (commands : List Command) (n places : ℕ) (j : JournalView) : Type 0 where
  pub tells : Tells rules packets j
  pub drained : NoneWaits (past_of rules packets j.node j.events)
  pub obeyed : commands_of j.events ≡ map as_written commands
  pub kept : KeepDrained (drained_lives commands) (losses j.outcomes)
  pub own : j.node ≡ n
  pub ring : j.ring ≡ places

-- a life ended at a place of the commands: with the restart or the stop there, or with their end
pub record IsEnded (rules : Rules) (packets : List Packet) (commands : List Command) (n places start stop : ℕ) (j : JournalView) : Type 0 where
  pub onward : start ≤ stop
  pub within : stop ≤ length commands
  pub next : stop < length commands → Going rules packets (take (stop + 1) commands) n places j
  pub last : length commands ≤ stop → IsLast rules packets commands n places j

-- what a node is asked to do, and in which cluster
pub record Asked (S H : Type 0) : Type 0 where
  pub setup : Fixed S H
  pub catalogue : Pools
  pub packets : List Packet
  pub node : ℕ
  pub ring : ℕ
  -- its driver waits at a full ring
  pub paced : Bool
  pub commands : List Command

abbrev pub asked_by : {S H : Type 0} → Fixed S H → Pools → List Packet → ℕ → ℕ → Bool → List Command → Asked S H
asked_by setup pools packets node ring paced commands = record {
  setup = setup;
  catalogue = pools;
  packets = packets;
  node = node;
  ring = ring;
  paced = paced;
  commands = commands;
}

-- the same of a driver that doesn't wait
abbrev pub asked_of : {S H : Type 0} → Fixed S H → Pools → List Packet → ℕ → ℕ → List Command → Asked S H
asked_of setup pools packets node ring commands = asked_by setup pools packets node ring false commands

-- a life may begin at a place of the commands: those before it were obeyed, and unless a count was lost the shares have what
-- the journal's outcomes come to; no arrival marks a worker where the driver waits at full rings
pub record Begins {S H : Type 0} (rules : Rules) (asked : Asked S H) (start : ℕ) (j : JournalView) (lost : Bool) (shares : Counted) : Type 0 where
  pub within : start ≤ length asked.commands
  pub going : Going rules asked.packets (take start asked.commands) asked.node asked.ring j
  pub some : 0 < shares.parts
  pub counts : AreRead asked.packets → Counts lost shares j.outcomes
  pub unmarked : asked.paced ≡ true → AreUnmarked j.events

-- one life of a node as contracts see it: what the node is asked to do, the place of the life's first command, the parts of the
-- counts that are left to its driver, and the number of the version that was installed last
pub record LifeView (S H : Type 0) : Type 0 where
  pub asked : Asked S H
  pub start : ℕ
  pub parts : ℕ
  pub newest : ℕ

-- a life ended, with shares of so many parts that have what the journal's outcomes come to then; no arrival marks a worker
-- where the driver waits at full rings
pub record IsLived {S H : Type 0} (rules : Rules) (asked : Asked S H) (start parts stop : ℕ) (j : JournalView) (lost : Bool) (shares : Counted) : Type 0 where
  pub ended : IsEnded rules asked.packets asked.commands asked.node asked.ring start stop j
  pub parts_are : shares.parts ≡ parts
  pub counts : AreRead asked.packets → Counts lost shares j.outcomes
  pub unmarked : asked.paced ≡ true → AreUnmarked j.events
