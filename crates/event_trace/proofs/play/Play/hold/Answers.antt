use Rattle.std.proofs.Common.{◌<◌, ◌^◌, length, ap, ◌∙◌, arith}
use Rattle.event_trace.specs.declared.delivery.Delivery.{Delivery}
use Rattle.event_trace.specs.Deliveries.{with_delivery}
use Rattle.event_trace.proofs.Passing.{held_is}
use Rattle.event_trace.proofs.play.Play.hold.Goals as goal

pub returns-clause-after : goal.returns-clause-after
returns-clause-after g c = λ w j.
    let few : length c.args.self.now.trace.past < 2 ^ 64 = omega (arith, c.said_count-count.ensures) in
    let goes = c.in_ok-outcome.ensures c.args.self.now.trace.past few c.requires.stands in
    c.in_ok-note_delivery.ensures.after
    ∙ ap (λ (d : Delivery). with_delivery c.args.packet.now d c.args.self.now.trace) c.arrive.ensures
    ∙ held_is w (g.C.Core.cluster c.args.setup.now) c.args.node c.args.place c.args.packet.now c.args.self.now.trace c.marks_at-refused.result c.in_ok-outcome.outcome j c.requires.held c.marks_at-refused.ensures goes.0
