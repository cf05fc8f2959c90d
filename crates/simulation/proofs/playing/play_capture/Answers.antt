use Rattle.std.proofs.Common.{refl, inl, inr}
use Rattle.std.proofs.lemmas.Result.{IfOk-weaker, IfErr-weaker}
use Rattle.simulation.specs.declared.fault.SimulationFault.TheVariants.{Capture}
use Rattle.simulation.specs.Plans.{planned}
use Rattle.simulation.proofs.Exits.{at_exit}
use Rattle.simulation.proofs.Joined.{simulated, stopped, unbegun}
use Rattle.simulation.proofs.playing.play_capture.Goals as goal

pub returns-clause-ok : goal.returns-clause-ok
returns-clause-ok g c = IfOk-weaker c.play_records.result _ _
    (λ p over. simulated _ _ (planned c.args.run.now.plan) c.in_ok-head.head _ _ _ _ _ _ _ _ _ c.in_ok-head.ensures.read c.in_ok-head.ensures.cause c.in_ok-begin.ensures.begun over)
    c.play_records.ensures.over

pub returns-clause-stopped : goal.returns-clause-stopped
returns-clause-stopped g c = IfErr-weaker c.play_records.result _ _
    (λ fault short. stopped _ _ (planned c.args.run.now.plan) c.in_ok-head.head _ _ _ _ _ _ fault c.in_ok-head.ensures.read c.in_ok-head.ensures.cause c.in_ok-head.ensures.calls c.in_ok-begin.ensures.begun short)
    c.play_records.ensures.short

pub returns-in_err-begin-clause-stopped : goal.returns-in_err-begin-clause-stopped
returns-in_err-begin-clause-stopped g c = at_exit c.from_residual-in_err-begin.result c.in_err-begin.field-0.0 _ c.from_residual-in_err-begin.ensures.1
    (unbegun _ _ (planned c.args.run.now.plan) c.in_ok-head.head _ _ _ _ _ c.in_ok-head.ensures.read c.in_ok-head.ensures.cause c.in_ok-head.ensures.calls c.in_err-begin.ensures.refused)

pub returns-in_err-head-clause-stopped : goal.returns-in_err-head-clause-stopped
returns-in_err-head-clause-stopped g c = at_exit c.from_residual.result (Capture c.in_err-head.field-0.0) _ c.from_residual.ensures.1
    (inr (inl ((c.in_err-head.ensures.read, c.in_err-head.ensures.cause), refl)))
