-- How the lists of the drivers grow by one event.
use Rattle.std.specs.Prelude.{◌≡◌, ◌<◌, ◌≤◌, ℕ, Bool, true, false, List, [], ◌∷◌, ◌++◌, length, slice_index_or, slice_set}
use Rattle.cluster_node.specs.declared.events.Event.{Event}
use Rattle.thread_records.specs.declared.command.Command.{Command}
use Rattle.thread_records.specs.declared.command.Command.TheVariants as commands
use Rattle.event_trace.specs.declared.steps.ScenarioStep.{ScenarioStep}
use Rattle.driver_commands.specs.Orders.{commands_on, ends_on, ended_by}

-- one list with one command more
abbrev pub pushed : ℕ → Command → List (List Command) → List (List Command)
pushed n c css = slice_set css n (slice_index_or css n [] ++ c ∷ [])

-- each list goes on with what the event tells its node
pub record Follows (e : Event) (old new : List (List Command)) : Type 0 where
  pub many : length new ≡ length old
  pub each : (n : ℕ) → n < length old → slice_index_or new n [] ≡ slice_index_or old n [] ++ commands_on n (e ∷ [])

abbrev pub ends_life : Command → Bool
ends_life (commands.Publish v) = false
ends_life (commands.Offer k) = false
ends_life commands.Restart = true
ends_life commands.Stop = true

-- the lists of the nodes below one end their lives as the steps do; the others are as they were
pub record EndBelow (steps : List ScenarioStep) (done : ℕ) (old new : List (List Command)) : Type 0 where
  pub many : length new ≡ length old
  pub ended : (n : ℕ) → n < done → n < length old → slice_index_or new n [] ≡ ended_by (ends_on n steps) (slice_index_or old n [])
  pub others : (n : ℕ) → done ≤ n → n < length old → slice_index_or new n [] ≡ slice_index_or old n []
