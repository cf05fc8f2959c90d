-- What is kept of a run's events for a report with a summary alone, where no idle limit is set.
use Rattle.std.specs.Prelude.{◌≡◌, ℕ, true, List, Option, None}
use Rattle.pcap_file.specs.declared.format.InputEnd.{InputEnd}
use Rattle.cluster_node.specs.declared.events.LogEntry.{LogEntry}
use Rattle.cluster_core.specs.Histories.{outcomes_of}
use Rattle.event_trace.specs.Counting.{CountsAre}
use Rattle.event_trace.specs.Trace.{Trace}
use Rattle.run_report.specs.Causes.{Lookups}
use Rattle.summary_book.specs.Books.{IsNotedSummaryOf}
use Rattle.simulate_scenario.specs.Asked.{is_summary}
use Rattle.simulate_scenario.specs.Told.{IsAnswer}
use Rattle.simulate_scenario.specs.declared.asking.Answer.{Answer}
use Rattle.simulate_scenario.specs.declared.asking.Query.TheVariants.{Report}
use Rattle.simulate_scenario.specs.declared.asking.Wanted.{Wanted}
use Rattle.simulate_scenario.specs.declared.summing.SummaryNotes.{SummaryNotes}

-- the notes are those of a record
abbrev pub AreSummed : List LogEntry → SummaryNotes → Type 0
AreSummed past n = CountsAre (outcomes_of past) n.counts × IsNotedSummaryOf past n.book

-- the answer is that to the report, where this is all that is wanted and there is no idle limit
abbrev pub IsSummedAnswer : Wanted → Answer → Lookups → Option ℕ → Trace → ℕ → InputEnd → Type 0
IsSummedAnswer wanted a lookups idle trace packets ending =
    is_summary wanted ≡ true → idle ≡ None → IsAnswer (Report wanted) a lookups idle trace packets ending
