use Rattle.std.proofs.Common.{◌<◌, ◌^◌, ◌+◌, length, ap, sym, ◌∙◌, arith, refl}
use Rattle.std.proofs.lemmas.Result.{on_ok_weaker}
use Rattle.event_trace.specs.Trace.{Trace, Playing}
use Rattle.event_trace.specs.declared.delivery.Delivery.{Delivery}
use Rattle.event_trace.specs.Deliveries.{with_delivery}
use Rattle.event_trace.specs.Steps.{is_held, marks_at}
use Rattle.event_trace.proofs.Passing.{passed_is, unrouted_is, routed_is, counted_on}
use Rattle.event_trace.proofs.play.Play.deliver.Goals as goal

pub returns-clause-after : goal.returns-clause-after
returns-clause-after g c = λ w j s.
    let old : Trace = c.args.self.now.trace in
    let d : Trace = counted_on c.args.self.now in
    let n = c.in-Some.node in
    let few : length old.past < 2 ^ 64 = omega (arith, c.said_count-count.ensures) in
    let goes = c.in_ok-pass.ensures old.past few c.requires.stands in
    routed_is w n c.args.place c.args.packet.now old d c.note_delivery.new.self.trace c.choose-chosen.result (s _ _ _ ∙ sym c.choose-chosen.ensures) c.in-Some.is refl
    (c.in_ok-note_delivery.ensures.after
    ∙ ap (λ (p : Playing _). with_delivery c.args.packet.now c.arrive.new.self (counted_on p)) c.self.view_is
    ∙ ap (λ (x : Delivery). with_delivery c.args.packet.now x d) c.arrive.ensures
    ∙ passed_is w (g.C.Core.cluster c.args.setup.now) n c.args.place c.args.packet.now d c.marks_at-refused.result c.newest-version.result _ j
    (sym (ap (λ (p : Playing _). is_held n (counted_on p)) c.self.view_is) ∙ sym c.is_held.ensures ∙ c.if-is_held.false)
    (c.marks_at-refused.ensures ∙ ap (λ (p : Playing _). marks_at n (counted_on p)) c.self.view_is) (c.newest-version.ensures old.past c.requires.stands) goes.0)

pub returns-then-is_held-clause-after : goal.returns-then-is_held-clause-after
returns-then-is_held-clause-after g c = on_ok_weaker c.hold.result (λ goes w j s.
    routed_is w c.in-Some.node c.args.place c.args.packet.now c.args.self.now.trace _ c.hold.new.self.trace c.choose-chosen.result (s _ _ _ ∙ sym c.choose-chosen.ensures) c.in-Some.is
    (ap (λ (p : Playing _). counted_on p) c.self.view_is) (goes w j))
    c.hold.ensures.after

pub returns-in_default-clause-after : goal.returns-in_default-clause-after
returns-in_default-clause-after g c = λ w j s.
    unrouted_is w c.args.place c.args.packet.now c.args.self.now.trace _ c.choose-chosen.result (s _ _ _ ∙ sym c.choose-chosen.ensures) c.in_default.is
    (ap (λ (p : Playing _). let d : Trace = record p.trace { nth = p.trace.nth + 1; unrouted = p.trace.unrouted + 1 } in d) c.self.view_is)
