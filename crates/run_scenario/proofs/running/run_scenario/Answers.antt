use Rattle.run_scenario.proofs.Ruled.{keeps}
use Rattle.run_scenario.proofs.PlainRuns.{plain_ran}
use Rattle.run_scenario.proofs.running.run_scenario.Goals as goal

pub returns-in-Ok-clause-ok : goal.returns-in-Ok-clause-ok
returns-in-Ok-clause-ok g c = plain_ran _ _ _ _ _ _ _ _ c.in-Ok.ensures.ran

pub returns-in-Ok-clause-paced : goal.returns-in-Ok-clause-paced
returns-in-Ok-clause-paced g c = λ paced. (plain_ran _ _ _ _ _ _ _ _ c.in-Ok.ensures.ran, c.in-Ok.ensures.ran.paced paced)

pub returns-in-Ok-clause-counts : goal.returns-in-Ok-clause-counts
returns-in-Ok-clause-counts g c = (plain_ran _ _ _ _ _ _ _ _ c.in-Ok.ensures.ran, c.in-Ok.ensures.ran.counted)

pub returns-in-Ok-clause-kept : goal.returns-in-Ok-clause-kept
returns-in-Ok-clause-kept g c = λ ran. keeps c.args.scenario.now.scenario ran.head.link ran.records ran.nodes ran.history c.slots-slots.ensures.listed c.keeps_doubles_out.ensures ran.run.joins
