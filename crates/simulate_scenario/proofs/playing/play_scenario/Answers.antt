use Rattle.std.proofs.Common.{string_bytes, subst, sym}
use Rattle.std.specs.Prelude.{IfOk}
use Rattle.simulate_scenario.specs.Answers.{CountedIn}
use Rattle.simulate_scenario.specs.declared.asking.Query.{Query}
use Rattle.simulate_scenario.proofs.Keeping.{keeps_any}
use Rattle.simulate_scenario.proofs.playing.play_scenario.Goals as goal

pub returns-in-Some-clause-counts : goal.returns-in-Some-clause-counts
returns-in-Some-clause-counts g c =
    subst (λ (q : Query). IfOk c.play_summed.result (λ a. CountedIn c.args.scenario q (g.I.Source.tape c.args.input.now) (g.I.Source.tape c.play_summed.new.input)
    (g.O.Outlet.tape c.args.output.now) (g.O.Outlet.tape c.play_summed.new.output) (string_bytes a.text) a.counts)) (sym c.in-Some.ensures.0) c.play_summed.ensures.counts

pub returns-in-Some-clause-kept : goal.returns-in-Some-clause-kept
returns-in-Some-clause-kept g c = keeps_any c.play_summed.result c.args.scenario c.args.asked _ _ _ _ c.slots-slots.ensures.listed c.keeps_doubles_out.ensures

pub returns-in-None-clause-counts : goal.returns-in-None-clause-counts
returns-in-None-clause-counts g c = c.play_noted.ensures.counts

pub returns-in-None-clause-kept : goal.returns-in-None-clause-kept
returns-in-None-clause-kept g c = keeps_any c.play_noted.result c.args.scenario c.args.asked _ _ _ _ c.slots-slots.ensures.listed c.keeps_doubles_out.ensures
