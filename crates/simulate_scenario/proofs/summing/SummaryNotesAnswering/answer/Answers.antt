use Rattle.std.proofs.Common.{◌∙◌, ap, Some}
use Rattle.hash_laws.specs.Any.{plain_of}
use Rattle.run_report.specs.Causes.{lookups_of}
use Rattle.simulate_scenario.proofs.Summed.{summed_told, summed_counts}
use Rattle.simulate_scenario.proofs.summing.SummaryNotesAnswering.answer.Goals as goal

pub returns : goal.returns
returns c = λ alone none.
    let w = c.args.task.now.asked in
    let r = c.args.ended.now in
    let d = c.args.task.now.deployment in
    let lookups = lookups_of (plain_of d.setup.hash) d.setup.size d.catalogue in
    let book = c.in_ok-settle.ensures r.trace.past c.requires.notes.1 in
    (c.in_ok-text.ensures ∙ summed_told w lookups d.setup.idle r.trace r.packets r.ending alone none, ap Some (c.counts.ensures r.trace.past book) ∙ summed_counts w r.trace.past alone)
