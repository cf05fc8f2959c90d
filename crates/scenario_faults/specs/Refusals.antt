-- When a command refuses a scenario, by which fault, and at which place.
use Rattle.std.specs.Prelude.{◌≡◌, ◌⊎◌, ℕ, List, Option, None}
use Rattle.scenario.specs.declared.fault.ScenarioFault.{ScenarioFault}
use Rattle.scenario.specs.declared.playing.Played.{Played}
use Rattle.scenario.specs.declared.plan.Scenario.{Scenario}
use Rattle.scenario.specs.declared.refused.Refused.{Refused}
use Rattle.scenario.specs.Meaning.{Means, IsRefused}
use Rattle.scenario.specs.Places.{IsAt}
use Rattle.version_drafts.specs.declared.place.Place.{Place}
use Rattle.command_faults.specs.declared.fault.CliFault.{CliFault}
use Rattle.command_faults.specs.Faults.{scenario_fault}
use Rattle.scenario_faults.specs.declared.PlacedFault.{PlacedFault}

-- the text is no scenario that is played so, for this fault
pub record ScenarioFails (played : Played) (fault : CliFault) (text : List ℕ) : Type 0 where
  pub why : ScenarioFault
  pub named : fault ≡ scenario_fault why
  pub refused : IsRefused played text why

-- why and where a scenario was refused, as the command's
abbrev pub placed_fault : Refused → PlacedFault
placed_fault r = record { fault = scenario_fault r.fault; place = r.place }

-- the same, and the scenario's fault is at this place
pub record ScenarioFailsAt (played : Played) (fault : CliFault) (place : Option Place) (text : List ℕ) : Type 0 where
  pub fails : ScenarioFails played fault text
  pub at : IsAt text fails.why place

-- the place of a fault of a command over a text: that of the scenario's fault, and none where the text means a scenario
abbrev pub IsPlaced : Played → List ℕ → PlacedFault → Type 0
IsPlaced played text r = ScenarioFailsAt played r.fault r.place text ⊎ (((s : Scenario) × Means played text s) × (r.place ≡ None))
