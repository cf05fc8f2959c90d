-- What is told of one node's part of a scenario's run.
use Rattle.std.specs.Prelude.{◌≡◌, ℕ, List, Option}
use Rattle.pcap_file.specs.declared.format.InputEnd.{InputEnd}
use Rattle.pcap_file.specs.Device.{Tape}
use Rattle.event_trace.specs.Trace.{Trace}
use Rattle.change_share.specs.declared.counts.ChangeCounts.{ChangeCounts}
use Rattle.scenario.specs.declared.plan.Scenario.{Scenario}
use Rattle.simulation.specs.declared.fault.SimulationFault.{SimulationFault}
use Rattle.node_part.specs.Parts.{part_trace}
use Rattle.node_part.specs.Played.{PartSimulated, PartStopped}
use Rattle.simulate_scenario.specs.Described.{cluster_in, choice_in, plan_in, lookups_in}
use Rattle.simulate_scenario.specs.Answers.{answer_of, counts_for}
use Rattle.simulate_scenario.specs.Kept.{KeepsPromises}
use Rattle.simulate_scenario.specs.declared.asking.Query.{Query}
use Rattle.simulate_scenario.specs.declared.asking.Query.TheVariants.{Report}
use Rattle.simulate_scenario.specs.declared.asking.Wanted.{Wanted}

-- The scenario ran over the whole input, the output got what the whole run sends at the part's events, and the text answers
-- what was asked of these events. These are the counts of their connections.
pub record PartAnswers (only : Option ℕ) (s : Scenario) (asked : Query) (input input' output output' : Tape) (text : List ℕ)
    (counts : Option ChangeCounts) : Type 0 where
  pub trace : Trace
  pub packets : ℕ
  pub ending : InputEnd
  pub simulated : PartSimulated only (cluster_in s) (choice_in s) (plan_in s) input input' output output' trace packets ending
  pub answer : text ≡ answer_of (lookups_in s) s.idle asked (part_trace only trace) packets ending
  pub counted : counts ≡ counts_for asked (part_trace only trace).past

-- a report of the part is the whole of what was told, with this text behind it
pub record PartToldIn (only : Option ℕ) (s : Scenario) (wanted : Wanted) (told : List ℕ → List ℕ → Type 0) (input input' output output' : Tape)
    (text : List ℕ) (counts : Option ChangeCounts) : Type 0 where
  pub whole : List ℕ
  pub answers : PartAnswers only s (Report wanted) input input' output output' whole counts
  pub is_told : told text whole

-- the whole run, of which this is the part, keeps the promises
abbrev pub PartKeeps : Option ℕ → Scenario → Tape → Tape → Tape → Tape → Type 0
PartKeeps only s input input' output output' =
    (trace : Trace) (packets : ℕ) (ending : InputEnd) →
    PartSimulated only (cluster_in s) (choice_in s) (plan_in s) input input' output output' trace packets ending → KeepsPromises s trace

-- its run stopped by this fault
abbrev pub PartStoppedIn : Option ℕ → Scenario → Tape → Tape → Tape → Tape → SimulationFault → Type 0
PartStoppedIn only s input input' output output' fault = PartStopped only (cluster_in s) (choice_in s) (plan_in s) input input' output output' fault
