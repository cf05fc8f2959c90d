-- The command that writes its listing as the run goes.
use Rattle.std.specs.Prelude.{◌≡◌, ◌⊎◌, List, ℕ}
use Rattle.pcap_file.specs.Device.{Tape}
use Rattle.scenario.specs.declared.playing.Played.TheVariants.{InTurn}
use Rattle.scenario.specs.declared.plan.Scenario.{Scenario}
use Rattle.scenario.specs.Meaning.{Means}
use Rattle.simulation.specs.declared.fault.SimulationFault.{SimulationFault}
use Rattle.simulate_scenario.specs.declared.asking.Query.{Query}
use Rattle.simulate_scenario.specs.Described.{StoppedIn}
use Rattle.simulate_scenario.specs.Answers.{AnswersIn}
use Rattle.command_faults.specs.declared.fault.CliFault.{CliFault}
use Rattle.command_faults.specs.declared.fault.CliFault.TheVariants.{Write}
use Rattle.scenario_faults.specs.Refusals.{ScenarioFails}
use Rattle.command_faults.specs.Faults.{run_fault}

-- the fault of the run, or Write, where the device of the listing refused a page
abbrev pub IsListingFault : SimulationFault → CliFault → Type 0
IsListingFault why fault = (fault ≡ run_fault why) ⊎ (fault ≡ Write)

-- the text means a scenario, whose run stopped, by this fault
pub record ListingStops (fault : CliFault) (text : List ℕ) (input input' output output' : Tape) : Type 0 where
  pub scenario : Scenario
  pub means : Means InTurn text scenario
  pub why : SimulationFault
  pub named : IsListingFault why fault
  pub stopped : StoppedIn scenario input input' output output' why

-- the scenario was played, but the end of the report was refused
pub record ListingRefused (fault : CliFault) (asked : Query) (text : List ℕ) (input input' output output' : Tape) : Type 0 where
  pub scenario : Scenario
  pub means : Means InTurn text scenario
  pub answer : List ℕ
  pub answers : AnswersIn scenario asked input input' output output' answer
  pub named : fault ≡ Write

-- the command stopped by this fault: the text is no scenario that is played in turn, and nothing was called; or the run
-- stopped; or the report was refused when it had ended
abbrev pub ListingFails : CliFault → Query → List ℕ → Tape → Tape → Tape → Tape → Type 0 → Type 0
ListingFails fault asked text input input' output output' Uncalled =
    (ScenarioFails InTurn fault text × Uncalled)
    ⊎ (ListingStops fault text input input' output output' ⊎ ListingRefused fault asked text input input' output output')
