use Rattle.std.proofs.Common.{ℕ, List, [], map, ap, ◌∙◌, sym}
use Rattle.simulation.specs.Sent.{time_of}
use Rattle.timed_steps.specs.Timed.{first_of, counted}
use Rattle.timed_steps.proofs.Timing.{asks_none}
use Rattle.run_scenario.proofs.orders.times_for.Goals as goal

pub returns-else-has_until-clause-steps : goal.returns-else-has_until-clause-steps
returns-else-has_until-clause-steps c =
    let times = map time_of c.args.records.now in
    ap (λ (ts : List ℕ). counted ts c.args.steps.now) c.new.ensures.items
    ∙ asks_none 0 (first_of times) [] times c.args.steps.now (sym c.has_until.ensures ∙ c.if-has_until.false)
