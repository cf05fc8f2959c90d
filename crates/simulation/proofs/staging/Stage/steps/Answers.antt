use Rattle.std.proofs.Common.{◌+◌, List, drop, subst, ◌∙◌, arith}
use Rattle.pcap_file.specs.declared.format.Head.{Head}
use Rattle.timed_steps.specs.declared.TimedStep.{TimedStep}
use Rattle.simulation.specs.Plans.{planned}
use Rattle.simulation.specs.PrivateGoing.{Shortened}
use Rattle.simulation.specs.PrivateStages.{Reached}
use Rattle.simulation.proofs.Exits.{at_exit}
use Rattle.simulation.proofs.Reaching.{next_step}
use Rattle.simulation.proofs.staging.Stage.steps.Goals as goal

pub returns-in_err-step-clause-short : goal.returns-in_err-step-clause-short
returns-in_err-step-clause-short g c = λ choice text begun same r.
    let i = c.loop-step.step-index in
    let here = subst (λ (l : List TimedStep). Reached (g.C.Core.cluster c.args.run.now.setup.now) choice (planned c.args.run.now.plan) text begun l c.loop-step.self (g.I.Source.tape c.loop-step.input) (g.O.Outlet.tape c.loop-step.output))
    (next_step c.args.run.now.plan.steps.now i c.step-item.result (omega arith) c.step-item.is) (c.loop-step.invariant.reached choice text begun same r) in
    at_exit c.from_residual.result c.in_err-step.field-0.0 _ c.from_residual.ensures.1
    (subst (λ (h : Head). Shortened (g.C.Core.cluster c.args.run.now.setup.now) choice (planned c.args.run.now.plan) h text (g.I.Source.tape c.step.new.input) begun (g.O.Outlet.tape c.step.new.output) c.in_err-step.field-0.0) c.loop-step.invariant.head
    (c.in_err-step.ensures.short choice text begun (drop (i + 1) c.args.run.now.plan.steps.now) (λ live flow nth. same live flow nth ∙ c.loop-step.invariant.same live flow nth) here))

pub loop-step-preserved : goal.loop-step-preserved
loop-step-preserved g c =
    let i = c.loop-step.step-index in
    record {
      stands = c.in_ok-step.ensures.stands;
      same = λ live flow nth. c.loop-step.invariant.same live flow nth ∙ c.step.ensures.choice live flow nth;
      counted = c.in_ok-step.ensures.few i c.loop-step.invariant.counted;
      head = c.in_ok-step.ensures.head ∙ c.loop-step.invariant.head;
      reached = λ choice text begun same r.
          let here = subst (λ (l : List TimedStep). Reached (g.C.Core.cluster c.args.run.now.setup.now) choice (planned c.args.run.now.plan) text begun l c.loop-step.self (g.I.Source.tape c.loop-step.input) (g.O.Outlet.tape c.loop-step.output))
          (next_step c.args.run.now.plan.steps.now i c.step-item.result (omega arith) c.step-item.is) (c.loop-step.invariant.reached choice text begun same r) in
          c.in_ok-step.ensures.reached choice text begun (drop (i + 1) c.args.run.now.plan.steps.now) (λ live flow nth. same live flow nth ∙ c.loop-step.invariant.same live flow nth) here;
    }
