use Rattle.std.specs.Prelude.{option_copied}
use Rattle.cluster_core.specs.Histories.{outcomes_of}
use Rattle.event_trace.proofs.Counted.{then_ok}
use Rattle.simulate_scenario.proofs.summing.SummaryNotesNotes.note.Goals as goal

pub returns : goal.returns
returns c = λ past h. then_ok c.note.result _ _ (λ k. (c.in_ok-count.ensures (outcomes_of past) h.0, k)) (c.note.ensures past (option_copied c.args.packet) h.1)
