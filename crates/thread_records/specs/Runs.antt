-- What is promised of a node's run and of a cluster's, whatever the schedule of its threads was.
use Rattle.std.specs.Prelude.{◌≡◌, ℕ, ◌+◌, true, List, [], ◌∷◌, map, Some, slice_get}
use Rattle.cluster_node.specs.declared.packets.Packet.{Packet}
use Rattle.cluster_node.specs.Rules.{Rules}
use Rattle.cluster_core.specs.Runs.{verdicts}
use Rattle.thread_records.specs.declared.command.Command.{Command}
use Rattle.thread_records.specs.declared.nodes.NodeRecord.{NodeRecord}
use Rattle.thread_records.specs.declared.nodes.History.{History}
use Rattle.thread_records.specs.Histories.{past_of, AreOf, commands_of, is_by_lives, ServesAreAccepted, MarksAreDue, NoneWaits}
use Rattle.thread_records.specs.Losses.{as_written, drained_lives, losses, KeepDrained}
use Rattle.thread_records.specs.Merges.{lives_of, AreMerges}
use Rattle.thread_records.specs.Joins.{all_events, all_outcomes}

pub record IsRunOf (rules : Rules) (packets : List Packet) (n ring : ℕ) (commands : List Command) (r : NodeRecord) : Type 0 where
  -- The history is the node's. Without the servings it is the commands in order, a stop as a restart. In each life the
  -- servings are last, worker by worker.
  pub own : AreOf n r.events.items
  pub obeyed : commands_of r.events.items ≡ map as_written commands
  pub by_lives : is_by_lives 0 r.events.items ≡ true
  -- each outcome is the verdict of its event after those before it, and no serving is refused
  pub told : r.outcomes.items ≡ verdicts rules [] packets r.events.items
  pub accepted : ServesAreAccepted (past_of rules packets n r.events.items)
  -- every packet that was placed in a life was served in it, unless the life ended with a stop
  pub kept : KeepDrained (drained_lives commands) (losses r.outcomes.items)
  pub drained : NoneWaits (past_of rules packets n r.events.items)
  -- a worker is marked as refusing only where its ring had taken as many packets as it has places
  pub due : MarksAreDue ring (past_of rules packets n r.events.items)
  -- for each life, what was sent is a merge of what its workers sent
  pub merged : AreMerges (map (λ v. v.items) r.sent.items) (lives_of r.outcomes.items)

-- so are the runs of the nodes from this one on
abbrev pub AreRuns : Rules → List Packet → ℕ → ℕ → List (List Command) → List NodeRecord → Type 0
AreRuns rules packets ring k [] [] = Unit {0}
AreRuns rules packets ring k [] (r ∷ rs) = ⊥
AreRuns rules packets ring k (c ∷ cs) [] = ⊥
AreRuns rules packets ring k (c ∷ cs) (r ∷ rs) = IsRunOf rules packets k ring c r × AreRuns rules packets ring (k + 1) cs rs

-- One history of all nodes, node by node. Each outcome is the verdict of its event in it. What it has of a node is what the
-- node's own history has.
pub record JoinsRuns (rules : Rules) (packets : List Packet) (nodes : List NodeRecord) (h : History) : Type 0 where
  pub events : h.events.items ≡ all_events nodes
  pub outcomes : h.outcomes.items ≡ all_outcomes nodes
  pub told : h.outcomes.items ≡ verdicts rules [] packets h.events.items
  pub own : (n : ℕ) (r : NodeRecord) → slice_get nodes n ≡ Some r → past_of rules packets n h.events.items ≡ past_of rules packets n r.events.items
