-- The command that plays a scenario, where a flow that begins again is another connection.
use Rattle.std.specs.Prelude.{◌≡◌, ◌⊎◌, ℕ, true, List, Option}
use Rattle.std.specs.Io.KnownBytes.{Appends}
use Rattle.pcap_file.specs.declared.format.PcapFault.{PcapFault}
use Rattle.pcap_file.specs.Device.{Tape, Unfailed}
use Rattle.scenario.specs.declared.playing.Played.{Played}
use Rattle.scenario.specs.declared.playing.Played.TheVariants.{InTurn}
use Rattle.scenario.specs.declared.plan.Scenario.{Scenario}
use Rattle.scenario.specs.Meaning.{Means}
use Rattle.connection_starts.specs.declared.ordinals.Ordinals.{Ordinals}
use Rattle.connection_starts.specs.Captures.{AreOrdinalsOf, ReadFails}
use Rattle.simulate_scenario.specs.declared.asking.Wanted.{Wanted}
use Rattle.simulate_scenario.specs.Kept.{KeepsPromises}
use Rattle.simulate_scenario.specs.Turned.{TurnedAnswers}
use Rattle.change_share.specs.declared.counts.ChangeCounts.{ChangeCounts}
use Rattle.command_faults.specs.declared.fault.CliFault.{CliFault}
use Rattle.command_faults.specs.declared.fault.CliFault.TheVariants.{Write}
use Rattle.command_faults.specs.Faults.{capture_fault}
use Rattle.scenario_faults.specs.Refusals.{ScenarioFails}
use Rattle.scenario_commands.specs.Parts.{has_node, LacksNode, PartStops}

-- The text means a scenario that is played so. The ordinals are those of the input's records, with the scenario's test of
-- checksums.
pub record OrdinalsFor (played : Played) (idle : Option ℕ) (text : List ℕ) (input : Option (List ℕ)) (o : Ordinals) : Type 0 where
  pub scenario : Scenario
  pub means : Means played text scenario
  pub ordinals : AreOrdinalsOf (record { check = scenario.check; idle = idle }) input o

-- the ordinals aren't read from the input, by this fault
pub record IsUnread (fault : CliFault) (input left : Tape) : Type 0 where
  pub why : PcapFault
  pub named : fault ≡ capture_fault why
  pub stopped : ReadFails why input left

-- the text means a scenario that is played so, and the ordinals aren't read
pub record ReadingStops (played : Played) (fault : CliFault) (text : List ℕ) (input left : Tape) : Type 0 where
  pub scenario : Scenario
  pub means : Means played text scenario
  pub unread : IsUnread fault input left

-- the ordinals aren't read: the text is no scenario that is played so, and nothing was called; or the input is refused
abbrev pub OrdinalsStop : Played → CliFault → List ℕ → Tape → Tape → Type 0 → Type 0
OrdinalsStop played fault text input left Uncalled = (ScenarioFails played fault text × Uncalled) ⊎ ReadingStops played fault text input left

-- the same of a scenario that is played in turn
abbrev pub OrdinalsIn : Option ℕ → List ℕ → Option (List ℕ) → Ordinals → Type 0
OrdinalsIn idle text input o = OrdinalsFor InTurn idle text input o

abbrev pub OrdinalsFail : CliFault → List ℕ → Tape → Tape → Type 0 → Type 0
OrdinalsFail fault text input left Uncalled = OrdinalsStop InTurn fault text input left Uncalled

-- The scenario that the text means, which is played in turn and has the node, was played. The output got what the whole run
-- sends at the part's events, and the report the text that tells what was wanted of them, in which connections are told by the
-- ordinals. The whole run keeps the promises.
pub record TurnedPlays (o : Ordinals) (only : Option ℕ) (wanted : Wanted) (text : List ℕ) (input input' output output' report report' : Tape)
    (counts : Option ChangeCounts) : Type 0 where
  pub scenario : Scenario
  pub means : Means InTurn text scenario
  pub there : has_node only scenario ≡ true
  pub answer : List ℕ
  pub answers : TurnedAnswers o only scenario wanted input input' output output' answer counts
  pub kept : KeepsPromises scenario answers.trace
  pub written : Appends report.bytes report'.bytes answer
  pub unfailed : Unfailed report report'

-- the part was played, but the end of the report was refused
pub record TurnedRefused (fault : CliFault) (o : Ordinals) (only : Option ℕ) (wanted : Wanted) (text : List ℕ)
    (input input' output output' : Tape) : Type 0 where
  pub scenario : Scenario
  pub means : Means InTurn text scenario
  pub there : has_node only scenario ≡ true
  pub answer : List ℕ
  pub counts : Option ChangeCounts
  pub answers : TurnedAnswers o only scenario wanted input input' output output' answer counts
  pub named : fault ≡ Write

-- the command stopped by this fault, as that of a part does
abbrev pub TurnedFails : CliFault → Ordinals → Option ℕ → Wanted → List ℕ → Tape → Tape → Tape → Tape → Type 0 → Type 0
TurnedFails fault o only wanted text input input' output output' Uncalled =
    ((ScenarioFails InTurn fault text ⊎ LacksNode fault only text) × Uncalled)
    ⊎ (PartStops fault only text input input' output output' ⊎ TurnedRefused fault o only wanted text input input' output output')
