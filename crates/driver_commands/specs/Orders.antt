-- What the steps of a scenario tell the drivers of a cluster's nodes.
use Rattle.std.specs.Prelude.{◌≡◌, ◌<◌, ◌==◌, ℕ, Bool, true, false, not, List, [], ◌∷◌, Option, Some, None, if◌then◌else◌, map, reverse, filter, filter_map}
use Rattle.std.specs.Prelude.{drop, slice_index_or}
use Rattle.cluster_node.specs.declared.packets.Packet.{Packet}
use Rattle.cluster_node.specs.declared.events.Event.{Event}
use Rattle.cluster_node.specs.declared.events.Event.TheVariants.{Install, Arrive, Serve, Restart}
use Rattle.cluster_node.specs.Records.{node_of}
use Rattle.thread_records.specs.declared.command.Command.{Command}
use Rattle.thread_records.specs.declared.command.Command.TheVariants.{Publish, Offer}
use Rattle.thread_records.specs.declared.command.Command.TheVariants as commands
use Rattle.thread_records.specs.Histories.{commands_of}
use Rattle.event_trace.specs.declared.steps.ScenarioStep.{ScenarioStep}
use Rattle.event_trace.specs.declared.steps.ScenarioStep.TheVariants as steps
use Rattle.thread_records.specs.Losses.{ending, drained_lives}
use Rattle.spreader.specs.Choices.{Choice}
use Rattle.cluster_core.specs.Cluster.{Cluster}
use Rattle.event_trace.specs.Trace.{Trace}
use Rattle.event_trace.specs.Steps.{none_marked, world_of, run, start, below}
use Rattle.driver_commands.specs.Knowing.{first_unsupported_of}
use Rattle.driver_commands.specs.Noting.{noting}

-- the events of a trace, the first in front
abbrev pub events_of : Trace → List Event
events_of c = map (λ s. s.event) (reverse c.past)

-- a node's driver's part of these events: those of the node, without the servings
abbrev pub commands_on : ℕ → List Event → List Command
commands_on n es = commands_of (filter (λ e. node_of e == n) es)

-- the parts of the drivers of so many nodes, in order
abbrev pub orders_in : ℕ → List Event → List (List Command)
orders_in nodes es = map (λ n. commands_on n es) (below nodes)

-- the trace of steps, from the start of so many nodes
abbrev pub trace_on : Cluster → Choice → List Packet → List ScenarioStep → ℕ → Trace
trace_on cluster choice packets steps nodes = run (world_of cluster choice packets) steps (start nodes)

-- the trace that the commands are read off
abbrev pub plan_of : Choice → List Packet → List ScenarioStep → ℕ → Trace
plan_of choice packets steps nodes = trace_on noting choice packets steps nodes

-- Whether a step ends the life of a node: if so, whether the life is drained. On threads a stop doesn't drain it.
abbrev pub ends_by : ℕ → ScenarioStep → Option Bool
ends_by n (steps.Install m v) = None
ends_by n (steps.Live ns) = None
ends_by n (steps.Take k) = None
ends_by n (steps.Lose k) = None
ends_by n (steps.Again k) = None
ends_by n (steps.Full m marks) = None
ends_by n (steps.Hold m) = None
ends_by n (steps.Drain m) = None
ends_by n (steps.Restart m) = if m == n then Some true else None
ends_by n (steps.Stop m) = if m == n then Some false else None

-- for each life of a node that these steps end, in order, whether it is drained
abbrev pub ends_on : ℕ → List ScenarioStep → List Bool
ends_on n ss = filter_map (ends_by n) ss

-- Commands of which those that end a life end the lives so, in order. Where none is left a life is drained.
abbrev pub ended_by : List Bool → List Command → List Command
ended_by ds [] = []
ended_by ds (Publish v ∷ cs) = Publish v ∷ ended_by ds cs
ended_by ds (Offer k ∷ cs) = Offer k ∷ ended_by ds cs
ended_by ds (commands.Restart ∷ cs) = ending (slice_index_or ds 0 true) ∷ ended_by (drop 1 ds) cs
ended_by ds (commands.Stop ∷ cs) = ending (slice_index_or ds 0 true) ∷ ended_by (drop 1 ds) cs

-- what the steps tell a node's driver: what their trace says of the node, each life ended as its step ends it
abbrev pub orders_on : Choice → List Packet → List ScenarioStep → ℕ → ℕ → List Command
orders_on choice packets steps nodes n = ended_by (ends_on n steps) (commands_on n (events_of (plan_of choice packets steps nodes)))

abbrev pub orders_of : Choice → List Packet → List ScenarioStep → ℕ → List (List Command)
orders_of choice packets steps nodes = map (orders_on choice packets steps nodes) (below nodes)

-- a packet that is offered is one of so many
abbrev pub IsThere : ℕ → Command → Type 0
IsThere count (Publish v) = Unit {0}
IsThere count (Offer k) = k < count
IsThere count commands.Restart = Unit {0}
IsThere count commands.Stop = Unit {0}

abbrev pub is_serve : Event → Bool
is_serve (Install n v) = false
is_serve (Arrive n k marks) = false
is_serve (Serve n w v r) = true
is_serve (Restart n) = false

-- the event of a command, where no worker refuses
abbrev pub event_of : ℕ → Command → Event
event_of n (Publish v) = Install n v
event_of n (Offer k) = Arrive n k none_marked
event_of n commands.Restart = Restart n
event_of n commands.Stop = Restart n

-- Where all steps are known, the commands say all: what a trace has of a node is what the node's commands say, and
-- servings.
abbrev pub KnownStepsAreTold : Type 0
KnownStepsAreTold = (cluster : Cluster) (choice : Choice) (packets : List Packet) (steps : List ScenarioStep) (nodes n : ℕ) → first_unsupported_of steps ≡ None
    → filter (λ e. not (is_serve e)) (filter (λ e. node_of e == n) (events_of (trace_on cluster choice packets steps nodes)))
    ≡ map (event_of n) (orders_on choice packets steps nodes n)

-- The commands end as many lives of a node as the steps, in their order, and each drains as its step does.
abbrev pub EndsAreTold : Type 0
EndsAreTold = (choice : Choice) (packets : List Packet) (steps : List ScenarioStep) (nodes n : ℕ) →
    drained_lives (orders_on choice packets steps nodes n) ≡ ends_on n steps
