-- The command that runs a scenario's cluster on threads.
use Rattle.std.specs.Prelude.{◌≡◌, ◌⊎◌, Bool, false, List, ℕ, Option, Some, None}
use Rattle.std.specs.Io.KnownBytes.{Appends}
use Rattle.pcap_file.specs.Device.{Tape, Unfailed, PutRefused}
use Rattle.thread_records.specs.Paced.{NoneRefused}
use Rattle.scenario.specs.declared.playing.Played.TheVariants.{OnThreads}
use Rattle.scenario.specs.declared.plan.Scenario.{Scenario}
use Rattle.scenario.specs.Meaning.{Means}
use Rattle.driver_commands.specs.Knowing.{first_unsupported_in}
use Rattle.json_lines.specs.declared.forms.Form.TheVariants.{Plain}
use Rattle.run_scenario.specs.declared.failure.RunFailure.{RunFailure}
use Rattle.run_scenario.specs.declared.running.RunOptions.{RunOptions}
use Rattle.run_scenario.specs.declared.failure.RunFailure.TheVariants.{Simulation, Threads}
use Rattle.run_scenario.specs.Runs.{Ran, Halted, counts_in}
use Rattle.run_scenario.specs.Kept.{KeepsPromises}
use Rattle.run_scenario.specs.Turned.{RanBy}
use Rattle.connection_starts.specs.declared.ordinals.Ordinals.{Ordinals}
use Rattle.scenario_faults.specs.Refusals.{ScenarioFails}
use Rattle.command_faults.specs.Faults.{run_fault, threads_fault}
use Rattle.change_share.specs.declared.counts.ChangeCounts.{ChangeCounts}
use Rattle.command_faults.specs.declared.fault.CliFault.{CliFault}
use Rattle.command_faults.specs.declared.fault.CliFault.TheVariants.{Write}

-- the fault of a run that stopped, as the command's
abbrev pub failure_fault : RunFailure → CliFault
failure_fault (Simulation fault) = run_fault fault
failure_fault (Threads fault) = threads_fault fault

-- nothing is asked for but the splits, where they are
abbrev pub only_splits : Bool → RunOptions
only_splits splits = record { splits = splits; places = false; backends = false; nodes = false; summary = false; paced = false; form = Plain }

-- the cluster of the scenario that the text means ran on threads over the input, the output got what the nodes sent, and the
-- report the run's, with what is asked for before and behind it; and the run keeps the promises
pub record Runs (options : RunOptions) (text : List ℕ) (input input' output output' report report' : Tape) : Type 0 where
  pub scenario : Scenario
  pub means : Means OnThreads text scenario
  pub answer : List ℕ
  pub ran : Ran scenario options input input' output output' answer
  pub kept : KeepsPromises scenario ran.head.link ran.records ran.history
  pub written : Appends report.bytes report'.bytes answer
  pub unfailed : Unfailed report report'

-- the same, and these are the counts of its connections, where the changes are kept
pub record CountedRuns (options : RunOptions) (text : List ℕ) (input input' output output' report report' : Tape) (counts : Option ChangeCounts) : Type 0 where
  pub runs : Runs options text input input' output output' report report'
  pub counted : counts ≡ counts_in runs.scenario options runs.ran.head.link runs.ran.records runs.ran.history

-- the cluster ran so, and no ring of its run refused a packet
pub record PacedRuns (options : RunOptions) (text : List ℕ) (input input' output output' report report' : Tape) : Type 0 where
  pub runs : Runs options text input input' output output' report report'
  pub none_refused : NoneRefused runs.ran.nodes

-- the text means a scenario that is played on threads, so that a cluster on threads knows each step, and its run stopped by
-- this fault
pub record RunFails (fault : CliFault) (text : List ℕ) (input input' output output' : Tape) : Type 0 where
  pub scenario : Scenario
  pub means : Means OnThreads text scenario
  pub known : first_unsupported_in scenario.steps.items ≡ None
  pub why : RunFailure
  pub named : fault ≡ failure_fault why
  pub stopped : Halted scenario input input' output output' why

-- the same as when the cluster ran, but the report was given up
pub record RunReportFails (fault : CliFault) (options : RunOptions) (text : List ℕ) (input input' output output' report report' : Tape) : Type 0 where
  pub scenario : Scenario
  pub means : Means OnThreads text scenario
  pub answer : List ℕ
  pub ran : Ran scenario options input input' output output' answer
  pub named : fault ≡ Write
  pub refused : PutRefused answer report report'

-- the command stopped by this fault: the text is no scenario that is played on threads, and nothing was called; or the run
-- stopped, and nothing was reported; or the report was given up
abbrev pub RunCommandFails : CliFault → RunOptions → List ℕ → Tape → Tape → Tape → Tape → Tape → Tape → Type 0 → Type 0 → Type 0
RunCommandFails fault options text input input' output output' report report' Uncalled Unreported =
    (ScenarioFails OnThreads fault text × Uncalled)
    ⊎ ((RunFails fault text input input' output output' × Unreported)
    ⊎ RunReportFails fault options text input input' output output' report report')

-- The cluster of the scenario that the text means ran on threads, and the report got what is told of this run, in which connections
-- are told by the ordinals. These are the counts of them. The run keeps the promises.
pub record TurnedRuns (o : Ordinals) (options : RunOptions) (text : List ℕ) (input input' output output' report report' : Tape)
    (counts : Option ChangeCounts) : Type 0 where
  pub scenario : Scenario
  pub means : Means OnThreads text scenario
  pub answer : List ℕ
  pub ran : RanBy (Some o) scenario options input input' output output' answer counts
  pub written : Appends report.bytes report'.bytes answer
  pub unfailed : Unfailed report report'

-- the same as when the cluster ran, but the report was given up
pub record TurnedReportFails (fault : CliFault) (o : Ordinals) (options : RunOptions) (text : List ℕ)
    (input input' output output' report report' : Tape) : Type 0 where
  pub scenario : Scenario
  pub means : Means OnThreads text scenario
  pub answer : List ℕ
  pub counts : Option ChangeCounts
  pub ran : RanBy (Some o) scenario options input input' output output' answer counts
  pub named : fault ≡ Write
  pub refused : PutRefused answer report report'

-- the command stopped by this fault, as one without the ordinals does
abbrev pub TurnedRunFails : CliFault → Ordinals → RunOptions → List ℕ → Tape → Tape → Tape → Tape → Tape → Tape → Type 0 → Type 0 → Type 0
TurnedRunFails fault o options text input input' output output' report report' Uncalled Unreported =
    (ScenarioFails OnThreads fault text × Uncalled)
    ⊎ ((RunFails fault text input input' output output' × Unreported)
    ⊎ TurnedReportFails fault o options text input input' output output' report report')
