use Rattle.std.proofs.Common.{[], List, ◌∙◌, sym, subst, ap}
use Rattle.std.specs.Prelude.{IfErr}
use Rattle.simulation.specs.Sent.{Sending, WroteUntil}
use Rattle.simulation.specs.Wires.{traffic}
use Rattle.simulation.specs.Following.{sent_with}
use Rattle.simulation.proofs.Followed.{settled_with, passed, placed_there, served_there, told_served}
use Rattle.simulation.proofs.relaying.Relay.settle_delivered.Goals as goal

pub returns-in-Through-clause-settled : goal.returns-in-Through-clause-settled
returns-in-Through-clause-settled g c = λ all k past can first.
    let d = c.args.delivery.now in
    let o = c.in-Through.outcome in
    let p = passed c.args.wire.now all k past _ (placed_there c.args.read.now d c.in-Through.worker c.in-Through.floor) (served_there d c.in-Through.worker o) c.args.intake.now.record_read c.args.self.now.waiting
    (told_served c.args.read.now d c.in-Through.worker c.in-Through.floor o c.if-not-delivery.false c.in-Through.is)
    (sym (c.passes.ensures d.place c.in-Through.floor d.version d.refused) ∙ c.if-passes.true) can first in
    settled_with c.send_taken.result _ _ _ _ _ p.mirrors (ap (sent_with (traffic c.args.wire.now []) o) c.frame-frame.ensures ∙ p.sends) c.send_taken.ensures.ok

pub returns-in-Through-clause-cut : goal.returns-in-Through-clause-cut
returns-in-Through-clause-cut g c = λ all k past can first.
    let d = c.args.delivery.now in
    let o = c.in-Through.outcome in
    let p = passed c.args.wire.now all k past _ (placed_there c.args.read.now d c.in-Through.worker c.in-Through.floor) (served_there d c.in-Through.worker o) c.args.intake.now.record_read c.args.self.now.waiting
    (told_served c.args.read.now d c.in-Through.worker c.in-Through.floor o c.if-not-delivery.false c.in-Through.is)
    (sym (c.passes.ensures d.place c.in-Through.floor d.version d.refused) ∙ c.if-passes.true) can first in
    subst (λ (l : List Sending). IfErr c.send_taken.result (λ fault. WroteUntil fault (g.O.Outlet.tape c.args.output.now) (g.O.Outlet.tape c.send_taken.new.output) l))
    (ap (sent_with (traffic c.args.wire.now []) o) c.frame-frame.ensures ∙ p.sends) c.send_taken.ensures.cut
