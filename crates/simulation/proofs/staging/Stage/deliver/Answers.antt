use Rattle.std.proofs.Common.{◌∙◌, List, Some, refl, sym, subst, ap, OnOk, IfErr, [], reverse}
use Rattle.pcap_file.specs.Format.{Record}
use Rattle.cluster_node.specs.declared.events.LogEntry.{LogEntry}
use Rattle.cluster_node.specs.declared.packets.Packet.{Packet}
use Rattle.cluster_node.specs.Records.{WasRead}
use Rattle.cluster_core.proofs.Frames.{was_read}
use Rattle.event_trace.specs.Trace.{Trace}
use Rattle.event_trace.specs.Steps.{world_of, deliver}
use Rattle.event_trace.specs.Deliveries.{events_of}
use Rattle.waiting_frames.specs.Mirrors.{Mirrors}
use Rattle.simulation.specs.declared.sending.Wire.{Wire}
use Rattle.simulation.specs.Plans.{planned}
use Rattle.simulation.specs.Sent.{packet_in, sent, Wrote, WroteUntil}
use Rattle.simulation.specs.Simulated.{traffic_of}
use Rattle.simulation.specs.Wires.{lent_record, traffic}
use Rattle.simulation.specs.PrivateGoing.{onto}
use Rattle.simulation.specs.Following.{ArrivesFirst}
use Rattle.simulation.specs.declared.fault.SimulationFault.TheVariants.{Memory}
use Rattle.simulation.proofs.Exits.{at_exit}
use Rattle.simulation.proofs.Staged.{Arriving, delivered, delivered_told, events_behind, can_settle, sound_after, cut_before, cut_after}
use Rattle.simulation.proofs.staging.Stage.deliver.Goals as goal

pub deliver-requires-clause-read : goal.deliver-requires-clause-read
deliver-requires-clause-read g c = subst (λ (p : Packet). WasRead (Some p)) (sym c.packet-packet.ensures) (was_read _ _ _ _)

pub returns-in_err-deliver-clause-cut : goal.returns-in_err-deliver-clause-cut
returns-in_err-deliver-clause-cut g c = λ w all begun i j s here.
    let c0 = c.args.self.now.play.trace in
    let p = packet_in c.args.self.now.intake.head.link c.args.run.now.plan.check c.args.self.now.intake.record_read in
    let a : Arriving all c.args.self.now.intake.record_read c0 (deliver w c.args.place p c0) = delivered w c.args.place p all c.args.self.now.intake.record_read c0 (deliver w c.args.place p c0) refl here in
    at_exit c.from_residual.result Memory _ c.from_residual.ensures.1
    (cut_before (g.C.Core.cluster c.args.run.now.setup.now) (planned c.args.run.now.plan) c.args.self.now.intake.head.link all c0 (deliver w c.args.place p c0) a.moved c.args.self.now.relay.waiting begun _ s)

pub returns-clause-sound : goal.returns-clause-sound
returns-clause-sound g c = λ all begun s here.
    let k = g.C.Core.cluster c.args.run.now.setup.now in
    let w0 = world_of k (g.P.Spread.choice c.args.self.now.play.spread) [] in
    let c0 = c.args.self.now.play.trace in
    let r = c.args.self.now.intake.record_read in
    let e = c.in_ok-deliver.ensures.after w0 refl (λ live flow nth. refl) in
    let a : Arriving all r c0 c.deliver.new.self.trace = delivered w0 c.args.place c.packet-packet.result all r c0 c.deliver.new.self.trace e here in
    let told = delivered_told w0 k c.args.place c.packet-packet.result c0 c.deliver.new.self.trace refl e s.judged in
    let es = events_of c.packet-packet.result c.deliver.new.delivery in
    let ev = events_behind c0 c.deliver.new.self.trace a.moved es c.in_ok-deliver.ensures.told in
    let can = can_settle k (planned c.args.run.now.plan) c.args.self.now.intake.head.link all c0 c.deliver.new.self.trace a.moved es c.args.self.now.relay.waiting begun _ s told ev in
    let first = subst (λ (l : List LogEntry). ArrivesFirst all r l) (sym ev) a.first in
    sound_after k (planned c.args.run.now.plan) c.args.self.now.intake.head.link all c0 c.deliver.new.self.trace a.moved es c.args.self.now.relay.waiting c.settle_delivered.new.self.waiting begun _ _ c.settle_delivered.result s told ev c.settle_delivered.ensures.count
    (subst (λ (x : Wire). OnOk c.settle_delivered.result (Mirrors all k (onto c0.past es) c.settle_delivered.new.self.waiting × Wrote (g.O.Outlet.tape c.args.output.now) (g.O.Outlet.tape c.settle_delivered.new.output) (sent (traffic x all) es)))
    c.wire-wire.ensures (c.settle_delivered.ensures.settled all k c0.past can first))

pub returns-clause-cut : goal.returns-clause-cut
returns-clause-cut g c = λ w all begun i j s here.
    let k = g.C.Core.cluster c.args.run.now.setup.now in
    let c0 = c.args.self.now.play.trace in
    let r = c.args.self.now.intake.record_read in
    let link = c.args.self.now.intake.head.link in
    let e = c.in_ok-deliver.ensures.after w i j in
    let a : Arriving all r c0 c.deliver.new.self.trace = delivered w c.args.place c.packet-packet.result all r c0 c.deliver.new.self.trace e here in
    let told = delivered_told w k c.args.place c.packet-packet.result c0 c.deliver.new.self.trace i e s.judged in
    let es = events_of c.packet-packet.result c.deliver.new.delivery in
    let ev = events_behind c0 c.deliver.new.self.trace a.moved es c.in_ok-deliver.ensures.told in
    let can = can_settle k (planned c.args.run.now.plan) link all c0 c.deliver.new.self.trace a.moved es c.args.self.now.relay.waiting begun _ s told ev in
    let first = subst (λ (l : List LogEntry). ArrivesFirst all r l) (sym ev) a.first in
    let pk = c.packet-packet.ensures ∙ ap (λ (x : Wire). packet_in x.link x.check (lent_record c.of-lent.result)) c.wire-wire.ensures ∙ ap (λ (x : Record). packet_in link c.args.run.now.plan.check x) (c.of-lent.ensures ∙ c.frame.ensures) in
    let is = e ∙ ap (λ (p : Packet). deliver w c.args.place p c0) pk in
    subst (λ (d : Trace). IfErr c.settle_delivered.result (λ fault. WroteUntil fault begun (g.O.Outlet.tape c.settle_delivered.new.output) (sent (traffic_of (planned c.args.run.now.plan) link all) (reverse d.past)))) is
    (cut_after k (planned c.args.run.now.plan) link all c0 c.deliver.new.self.trace a.moved es c.args.self.now.relay.waiting begun _ _ c.settle_delivered.result s ev
    (subst (λ (x : Wire). IfErr c.settle_delivered.result (λ fault. WroteUntil fault (g.O.Outlet.tape c.args.output.now) (g.O.Outlet.tape c.settle_delivered.new.output) (sent (traffic x all) es)))
    c.wire-wire.ensures (c.settle_delivered.ensures.cut all k c0.past can first)))
