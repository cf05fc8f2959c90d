-- The commands that play a scenario over a capture.
use Rattle.std.specs.Prelude.{◌≡◌, ◌≢◌, ◌⊎◌, ℕ, List, Option}
use Rattle.std.specs.Io.KnownBytes.{Appends}
use Rattle.pcap_file.specs.Device.{Tape, Unfailed, PutRefused}
use Rattle.scenario.specs.declared.playing.Played.TheVariants.{InTurn}
use Rattle.scenario.specs.declared.plan.Scenario.{Scenario}
use Rattle.scenario.specs.Meaning.{Means}
use Rattle.simulation.specs.declared.fault.SimulationFault.{SimulationFault}
use Rattle.simulation.specs.Wires.{unkept}
use Rattle.simulate_scenario.specs.declared.asking.Query.{Query}
use Rattle.simulate_scenario.specs.Described.{StoppedIn}
use Rattle.simulate_scenario.specs.Answers.{AnswersIn, counts_for}
use Rattle.simulate_scenario.specs.Kept.{KeepsPromises}
use Rattle.change_share.specs.declared.counts.ChangeCounts.{ChangeCounts}
use Rattle.command_faults.specs.declared.fault.CliFault.{CliFault}
use Rattle.command_faults.specs.declared.fault.CliFault.TheVariants.{Write}
use Rattle.command_faults.specs.Faults.{run_fault}
use Rattle.scenario_faults.specs.Refusals.{ScenarioFails}

-- the scenario that the text means, which is played in turn, was played over the input, the output got what was sent, and the
-- report the text that answers what was asked; and the run keeps the promises
pub record Plays (asked : Query) (text : List ℕ) (input input' output output' report report' : Tape) : Type 0 where
  pub scenario : Scenario
  pub means : Means InTurn text scenario
  pub answer : List ℕ
  pub answers : AnswersIn scenario asked input input' output output' answer
  pub kept : KeepsPromises scenario answers.trace
  pub written : Appends report.bytes report'.bytes answer
  pub unfailed : Unfailed report report'

-- the same, and these are the counts of its connections, where the changes are kept
pub record CountedPlays (asked : Query) (text : List ℕ) (input input' output output' report report' : Tape) (counts : Option ChangeCounts) : Type 0 where
  pub plays : Plays asked text input input' output output' report report'
  pub counted : counts ≡ counts_for asked plays.answers.trace.past

-- the text means a scenario, and its run stopped by this fault
pub record RunFails (fault : CliFault) (text : List ℕ) (input input' output output' : Tape) : Type 0 where
  pub scenario : Scenario
  pub means : Means InTurn text scenario
  pub why : SimulationFault
  pub named : fault ≡ run_fault why
  pub stopped : StoppedIn scenario input input' output output' why

-- the same as when the scenario was played, but the report was given up
pub record ReportFails (fault : CliFault) (asked : Query) (text : List ℕ) (input input' output output' report report' : Tape) : Type 0 where
  pub scenario : Scenario
  pub means : Means InTurn text scenario
  pub answer : List ℕ
  pub answers : AnswersIn scenario asked input input' output output' answer
  pub named : fault ≡ Write
  pub refused : PutRefused answer report report'

-- a command over a scenario stopped by this fault: the text is no scenario that is played in turn, and nothing was called; or
-- the run stopped, and nothing was reported; or the report was given up
abbrev pub PlayFails : CliFault → Query → List ℕ → Tape → Tape → Tape → Tape → Tape → Tape → Type 0 → Type 0 → Type 0
PlayFails fault asked text input input' output output' report report' Uncalled Unreported =
    (ScenarioFails InTurn fault text × Uncalled)
    ⊎ ((RunFails fault text input input' output output' × Unreported)
    ⊎ ReportFails fault asked text input input' output output' report report')

-- the same of a command that has no output, and so never fails in writing it
abbrev pub ExplainFails : CliFault → Query → List ℕ → Tape → Tape → Tape → Tape → Type 0 → Type 0 → Type 0
ExplainFails fault asked text input input' report report' Uncalled Unreported =
    (ScenarioFails InTurn fault text × Uncalled)
    ⊎ ((RunFails fault text input input' unkept unkept × (fault ≢ Write) × Unreported)
    ⊎ ReportFails fault asked text input input' unkept unkept report report')
