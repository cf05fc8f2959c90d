use Rattle.std.proofs.Common.{◌∙◌, ap, string_bytes}
use Rattle.cluster_core.specs.Histories.{outcomes_of}
use Rattle.event_trace.proofs.Counted.{balanced_record}
use Rattle.simulate_scenario.specs.Answers.{is_cut}
use Rattle.simulate_scenario.proofs.Noted.{totals_told}
use Rattle.simulate_scenario.proofs.Runs.{told}
use Rattle.simulate_scenario.proofs.answering.plain_report.Goals as goal

pub totals-totals-requires : goal.totals-totals-requires
totals-totals-requires c = (outcomes_of c.args.ended.now.trace.past, c.requires.counts, balanced_record c.args.ended.now.trace.past c.requires.balance)

pub returns : goal.returns
returns c = told c.args.form string_bytes c.report.result _ _ _ _ _ _ c.tally-tally.ensures (c.totals-totals.ensures ∙ totals_told c.args.ended.now.trace.past c.args.counts.now c.requires.counts) (c.is_cut.ensures ∙ ap is_cut c.ending.ensures) c.report.ensures
