-- What an answer is, whole or behind what pages were told.
use Rattle.std.specs.Prelude.{◌≡◌, ℕ, List, [], ◌∷◌, Option, string_bytes}
use Rattle.pcap_file.specs.declared.format.InputEnd.{InputEnd}
use Rattle.pcap_file.specs.Device.{Tape}
use Rattle.spreader.specs.Choices.{Choice}
use Rattle.cluster_core.specs.Cluster.{Cluster}
use Rattle.event_trace.specs.Trace.{Trace}
use Rattle.run_report.specs.Causes.{Lookups}
use Rattle.change_share.specs.declared.counts.ChangeCounts.{ChangeCounts}
use Rattle.scenario.specs.declared.plan.Scenario.{Scenario}
use Rattle.simulation.specs.Plans.{Planned}
use Rattle.simulation.specs.Simulated.{Simulated}
use Rattle.simulate_scenario.specs.Answers.{answer_of, counts_for, report_of, CountedIn}
use Rattle.simulate_scenario.specs.declared.asking.Answer.{Answer}
use Rattle.simulate_scenario.specs.declared.asking.Query.{Query}
use Rattle.simulate_scenario.specs.declared.asking.Query.TheVariants.{Report}
use Rattle.simulate_scenario.specs.declared.asking.Wanted.{Wanted}

-- the scenario ran over the whole input, the output got what was sent, and of this run something holds
pub record AnswersBy (holds : Lookups → Option ℕ → Trace → ℕ → InputEnd → Type 0)
    (cluster : Cluster) (choice : Choice) (plan : Planned) (lookups : Lookups) (idle : Option ℕ)
    (input input' output output' : Tape) : Type 0 where
  pub trace : Trace
  pub packets : ℕ
  pub ending : InputEnd
  pub simulated : Simulated cluster choice plan input input' output output' trace packets ending
  pub answer : holds lookups idle trace packets ending

-- the answer is that to what is asked of a run
abbrev pub IsAnswer : Query → Answer → Lookups → Option ℕ → Trace → ℕ → InputEnd → Type 0
IsAnswer asked a lookups idle trace packets ending = (string_bytes a.text ≡ answer_of lookups idle asked trace packets ending)
    × (a.counts ≡ counts_for asked trace.past)

-- The answer is that to a report, behind what the pages were told since they were the first.
pub record IsToldAnswer {P : Type 0} (told : P → P → List ℕ → List ℕ → Type 0) (wanted : Wanted) (firsts : List P) (pages : P) (a : Answer)
    (lookups : Lookups) (idle : Option ℕ) (trace : Trace) (packets : ℕ) (ending : InputEnd) : Type 0 where
  pub first : P
  pub first_is : firsts ≡ first ∷ []
  pub text_told : told first pages (string_bytes a.text) (report_of lookups idle wanted trace packets ending)
  pub counted : a.counts ≡ counts_for (Report wanted) trace.past

-- A scenario was played, and a report of the run is the whole of what was told, with this text behind it. These are the
-- counts of its connections.
pub record ToldIn (s : Scenario) (wanted : Wanted) (told : List ℕ → List ℕ → Type 0)
    (input input' output output' : Tape) (text : List ℕ) (counts : Option ChangeCounts) : Type 0 where
  pub whole : List ℕ
  pub counted : CountedIn s (Report wanted) input input' output output' whole counts
  pub is_told : told text whole
