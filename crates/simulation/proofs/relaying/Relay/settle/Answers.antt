use Rattle.std.proofs.Common.{[], Option, List, sym, subst, append-nil, OnOk, IfErr}
use Rattle.cluster_node.specs.declared.events.LogEntry.{LogEntry}
use Rattle.event_trace.specs.Deliveries.{if_there}
use Rattle.waiting_frames.specs.Mirrors.{Mirrors}
use Rattle.simulation.specs.PrivateGoing.{onto}
use Rattle.simulation.specs.Following.{NoArrivals, CanSettle}
use Rattle.simulation.specs.Sent.{Sending, sent, sent_by, Wrote, WroteUntil}
use Rattle.simulation.specs.Wires.{traffic}
use Rattle.simulation.proofs.Followed.{can_first, settled_one}
use Rattle.simulation.proofs.relaying.Relay.settle.Goals as goal

pub returns-in-Some-clause-settled : goal.returns-in-Some-clause-settled
returns-in-Some-clause-settled g c = λ all k past can quiet.
    let s = c.in-Some.said in
    let can' = subst (λ (o : Option LogEntry). CanSettle all k past (if_there o) c.args.self.now.waiting) c.in-Some.is can in
    let quiet' = subst (λ (o : Option LogEntry). NoArrivals (if_there o)) c.in-Some.is quiet in
    subst (λ (o : Option LogEntry). OnOk c.settle_one.result (Mirrors all k (onto past (if_there o)) c.settle_one.new.self.waiting × Wrote (g.O.Outlet.tape c.args.output.now) (g.O.Outlet.tape c.settle_one.new.output) (sent (traffic c.args.wire.now all) (if_there o)))) (sym c.in-Some.is)
    (settled_one c.settle_one.result _ (traffic c.args.wire.now all) s _ _ (c.settle_one.ensures.settled all k past (can_first all k past [] s c.args.self.now.waiting can') quiet'.0))

pub returns-in-Some-clause-cut : goal.returns-in-Some-clause-cut
returns-in-Some-clause-cut g c = λ all k past can quiet.
    let s = c.in-Some.said in
    let can' = subst (λ (o : Option LogEntry). CanSettle all k past (if_there o) c.args.self.now.waiting) c.in-Some.is can in
    let quiet' = subst (λ (o : Option LogEntry). NoArrivals (if_there o)) c.in-Some.is quiet in
    subst (λ (o : Option LogEntry). IfErr c.settle_one.result (λ fault. WroteUntil fault (g.O.Outlet.tape c.args.output.now) (g.O.Outlet.tape c.settle_one.new.output) (sent (traffic c.args.wire.now all) (if_there o)))) (sym c.in-Some.is)
    (subst (λ (l : List Sending). IfErr c.settle_one.result (λ fault. WroteUntil fault (g.O.Outlet.tape c.args.output.now) (g.O.Outlet.tape c.settle_one.new.output) l)) (sym (append-nil (sent_by (traffic c.args.wire.now all) s.outcome)))
    (c.settle_one.ensures.cut all k past (can_first all k past [] s c.args.self.now.waiting can') quiet'.0))
