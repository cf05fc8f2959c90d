-- The command that plays one node's part of a scenario.
use Rattle.std.specs.Prelude.{◌≡◌, ◌⊎◌, ℕ, Bool, true, false, List, length, Option, Some, None, nat_lt}
use Rattle.std.specs.Io.KnownBytes.{Appends}
use Rattle.pcap_file.specs.Device.{Tape, Unfailed}
use Rattle.pool_versions.specs.declared.catalogue.PoolFault.TheVariants.{BadNumber}
use Rattle.scenario.specs.declared.playing.Played.TheVariants.{InTurn}
use Rattle.scenario.specs.declared.plan.Scenario.{Scenario}
use Rattle.scenario.specs.Meaning.{Means}
use Rattle.simulation.specs.declared.fault.SimulationFault.{SimulationFault}
use Rattle.simulate_scenario.specs.declared.asking.Query.TheVariants.{Report}
use Rattle.simulate_scenario.specs.declared.asking.Wanted.{Wanted}
use Rattle.simulate_scenario.specs.Kept.{KeepsPromises}
use Rattle.simulate_scenario.specs.Parts.{PartAnswers, PartStoppedIn}
use Rattle.change_share.specs.declared.counts.ChangeCounts.{ChangeCounts}
use Rattle.command_faults.specs.declared.fault.CliFault.{CliFault}
use Rattle.command_faults.specs.declared.fault.CliFault.TheVariants.{Write, Pool}
use Rattle.scenario_faults.specs.Refusals.{ScenarioFails}
use Rattle.scenario_commands.specs.Listings.{IsListingFault}

-- a scenario has the node that is to be played
abbrev pub has_node : Option ℕ → Scenario → Bool
has_node None s = true
has_node (Some n) s = nat_lt n (length s.nodes.items)

-- The scenario that the text means, which is played in turn and has the node, was played. The output got what the whole run
-- sends at the part's events, and the report the text that tells what was wanted of them. The whole run keeps the promises.
pub record PartPlays (only : Option ℕ) (wanted : Wanted) (text : List ℕ) (input input' output output' report report' : Tape)
    (counts : Option ChangeCounts) : Type 0 where
  pub scenario : Scenario
  pub means : Means InTurn text scenario
  pub there : has_node only scenario ≡ true
  pub answer : List ℕ
  pub answers : PartAnswers only scenario (Report wanted) input input' output output' answer counts
  pub kept : KeepsPromises scenario answers.trace
  pub written : Appends report.bytes report'.bytes answer
  pub unfailed : Unfailed report report'

-- the text means a scenario that lacks the node
pub record LacksNode (fault : CliFault) (only : Option ℕ) (text : List ℕ) : Type 0 where
  pub scenario : Scenario
  pub means : Means InTurn text scenario
  pub lacks : has_node only scenario ≡ false
  pub named : fault ≡ Pool BadNumber

-- the text means a scenario that has the node, and its run stopped, by this fault
pub record PartStops (fault : CliFault) (only : Option ℕ) (text : List ℕ) (input input' output output' : Tape) : Type 0 where
  pub scenario : Scenario
  pub means : Means InTurn text scenario
  pub there : has_node only scenario ≡ true
  pub why : SimulationFault
  pub named : IsListingFault why fault
  pub stopped : PartStoppedIn only scenario input input' output output' why

-- the part was played, but the end of the report was refused
pub record PartRefused (fault : CliFault) (only : Option ℕ) (wanted : Wanted) (text : List ℕ) (input input' output output' : Tape) : Type 0 where
  pub scenario : Scenario
  pub means : Means InTurn text scenario
  pub there : has_node only scenario ≡ true
  pub answer : List ℕ
  pub counts : Option ChangeCounts
  pub answers : PartAnswers only scenario (Report wanted) input input' output output' answer counts
  pub named : fault ≡ Write

-- the command stopped by this fault: the text is no scenario that is played in turn, or lacks the node, and nothing was
-- called; or the run stopped; or the report was refused when it had ended
abbrev pub PartFails : CliFault → Option ℕ → Wanted → List ℕ → Tape → Tape → Tape → Tape → Type 0 → Type 0
PartFails fault only wanted text input input' output output' Uncalled =
    ((ScenarioFails InTurn fault text ⊎ LacksNode fault only text) × Uncalled)
    ⊎ (PartStops fault only text input input' output output' ⊎ PartRefused fault only wanted text input input' output output')
