use Rattle.std.proofs.Common.{◌≡◌, [], ◌∷◌, List, ◌∙◌, sym, subst}
use Rattle.std.specs.Prelude.{OnOk, IfErr}
use Rattle.cluster_node.specs.declared.events.LogEntry.{LogEntry}
use Rattle.event_trace.specs.Deliveries.{events_of}
use Rattle.waiting_frames.specs.Mirrors.{Mirrors}
use Rattle.simulation.specs.Sent.{Sending, sent, Wrote, WroteUntil}
use Rattle.simulation.specs.Wires.{traffic}
use Rattle.simulation.specs.PrivateGoing.{onto}
use Rattle.simulation.proofs.Followed.{wrote_nothing, told_one, told_both, first_of, first_sends, behind_arrival}
use Rattle.simulation.proofs.relaying.Relay.settle_told.Goals as goal

pub returns-in-Some-clause-settled : goal.returns-in-Some-clause-settled
returns-in-Some-clause-settled g c = λ all k past can first.
    let s = c.arrival-arrival.result in
    let t = c.in-Some.serving in
    let qs = c.args.self.now.waiting in
    let r = c.args.intake.now.record_read in
    let events = events_of c.args.read.now c.args.delivery.now in
    let is : events ≡ s ∷ t ∷ [] = told_both c.args.read.now c.args.delivery.now s t c.requires c.arrival-arrival.ensures (sym c.serving.ensures ∙ c.in-Some.is) in
    let f = first_of all k past events (t ∷ []) s r qs is can first in
    let m = c.in_ok-take_in.ensures.taken all k past f.can f.comes in
    let b = behind_arrival c.args.wire.now all k past events s t r qs c.take_in.new.self.waiting is can first c.take_in.ensures.count m in
    subst (λ (l : List LogEntry). OnOk c.settle_one.result (Mirrors all k (onto past l) c.settle_one.new.self.waiting × Wrote (g.O.Outlet.tape c.args.output.now) (g.O.Outlet.tape c.settle_one.new.output) (sent (traffic c.args.wire.now all) events))) (sym is)
    (subst (λ (l : List Sending). OnOk c.settle_one.result (Mirrors all k (t ∷ s ∷ past) c.settle_one.new.self.waiting × Wrote (g.O.Outlet.tape c.args.output.now) (g.O.Outlet.tape c.settle_one.new.output) l))
    b.sends (c.settle_one.ensures.settled all k (s ∷ past) b.can b.quiet))

pub returns-in-Some-clause-cut : goal.returns-in-Some-clause-cut
returns-in-Some-clause-cut g c = λ all k past can first.
    let s = c.arrival-arrival.result in
    let t = c.in-Some.serving in
    let qs = c.args.self.now.waiting in
    let r = c.args.intake.now.record_read in
    let events = events_of c.args.read.now c.args.delivery.now in
    let is : events ≡ s ∷ t ∷ [] = told_both c.args.read.now c.args.delivery.now s t c.requires c.arrival-arrival.ensures (sym c.serving.ensures ∙ c.in-Some.is) in
    let f = first_of all k past events (t ∷ []) s r qs is can first in
    let m = c.in_ok-take_in.ensures.taken all k past f.can f.comes in
    let b = behind_arrival c.args.wire.now all k past events s t r qs c.take_in.new.self.waiting is can first c.take_in.ensures.count m in
    subst (λ (l : List Sending). IfErr c.settle_one.result (λ fault. WroteUntil fault (g.O.Outlet.tape c.args.output.now) (g.O.Outlet.tape c.settle_one.new.output) l))
    b.sends (c.settle_one.ensures.cut all k (s ∷ past) b.can b.quiet)

pub returns-in-None-clause-settled : goal.returns-in-None-clause-settled
returns-in-None-clause-settled g c = λ all k past can first.
    let s = c.arrival-arrival.result in
    let qs = c.args.self.now.waiting in
    let r = c.args.intake.now.record_read in
    let events = events_of c.args.read.now c.args.delivery.now in
    let is : events ≡ s ∷ [] = told_one c.args.read.now c.args.delivery.now s c.requires c.arrival-arrival.ensures (sym c.serving.ensures ∙ c.in-None.is) in
    let f = first_of all k past events [] s r qs is can first in (
      subst (λ (l : List LogEntry). Mirrors all k (onto past l) c.take_in.new.self.waiting) (sym is) (c.in_ok-take_in.ensures.taken all k past f.can f.comes),
      wrote_nothing _ _ (sym (first_sends c.args.wire.now all k past events [] s r qs is can first)),
    )
