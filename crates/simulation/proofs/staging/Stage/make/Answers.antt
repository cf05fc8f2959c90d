use Rattle.simulation.specs.Plans.{planned}
use Rattle.simulation.proofs.Reaching.{reached_start}
use Rattle.simulation.proofs.staging.Stage.make.Goals as goal

pub returns-clause-reached : goal.returns-clause-reached
returns-clause-reached g c = λ cluster choice text out few nodes orderly.
    reached_start cluster choice (planned c.args.plan) text out _ few nodes c.in_ok-new.ensures.count orderly c.in_ok-start.ensures.trace c.new-3.ensures.fresh c.new-3.ensures.none c.new-3.ensures.clear c.new-3.ensures.first c.in_ok-of_steps.ensures c.in_ok-new.ensures.mirrors
