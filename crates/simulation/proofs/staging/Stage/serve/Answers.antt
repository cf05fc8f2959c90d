use Rattle.std.proofs.Common.{refl, sym, subst, OnOk, IfErr, [], ◌∷◌, reverse}
use Rattle.event_trace.specs.Trace.{Trace}
use Rattle.event_trace.specs.Steps.{world_of, serve}
use Rattle.waiting_frames.specs.Mirrors.{Mirrors}
use Rattle.simulation.specs.declared.sending.Wire.{Wire}
use Rattle.simulation.specs.Plans.{planned}
use Rattle.simulation.specs.Sent.{sent, Wrote, WroteUntil}
use Rattle.simulation.specs.Simulated.{traffic_of}
use Rattle.simulation.specs.Wires.{traffic}
use Rattle.simulation.specs.PrivateGoing.{onto}
use Rattle.simulation.specs.Following.{NoArrivals}
use Rattle.simulation.specs.declared.fault.SimulationFault.TheVariants.{Memory}
use Rattle.simulation.proofs.Exits.{at_exit}
use Rattle.simulation.proofs.Staged.{Quietly, served, served_told, events_behind, can_settle, sound_after, cut_before, cut_after}
use Rattle.simulation.proofs.staging.Stage.serve.Goals as goal

pub returns-in_err-said-clause-cut : goal.returns-in_err-said-clause-cut
returns-in_err-said-clause-cut g c = λ w all begun i s.
    let c0 = c.args.self.now.play.trace in
    let a : Quietly c0 (serve w c.args.node c.args.worker c0) = served w c.args.node c.args.worker c0 (serve w c.args.node c.args.worker c0) refl in
    at_exit c.from_residual.result Memory _ c.from_residual.ensures.1
    (cut_before (g.C.Core.cluster c.args.run.now.setup.now) (planned c.args.run.now.plan) c.args.self.now.intake.head.link all c0 (serve w c.args.node c.args.worker c0) a.moved c.args.self.now.relay.waiting begun _ s)

pub returns-clause-sound : goal.returns-clause-sound
returns-clause-sound g c = λ all begun s.
    let k = g.C.Core.cluster c.args.run.now.setup.now in
    let w = world_of k (g.P.Spread.choice c.args.self.now.play.spread) [] in
    let c0 = c.args.self.now.play.trace in
    let d = c.serve.new.self.trace in
    let e = c.in_ok-said.ensures.after w refl in
    let a : Quietly c0 d = served w c.args.node c.args.worker c0 d e in
    let told = served_told w k c.args.node c.args.worker c0 d refl e s.judged in
    let es = c.in_ok-said.said ∷ [] in
    let ev = events_behind c0 d a.moved es c.in_ok-said.ensures.told in
    let can = can_settle k (planned c.args.run.now.plan) c.args.self.now.intake.head.link all c0 d a.moved es c.args.self.now.relay.waiting begun _ s told ev in
    let quiet = subst NoArrivals (sym ev) a.quiet in
    sound_after k (planned c.args.run.now.plan) c.args.self.now.intake.head.link all c0 d a.moved es c.args.self.now.relay.waiting c.settle.new.self.waiting begun _ _ c.settle.result s told ev c.settle.ensures.count
    (subst (λ (x : Wire). OnOk c.settle.result (Mirrors all k (onto c0.past es) c.settle.new.self.waiting × Wrote (g.O.Outlet.tape c.args.output.now) (g.O.Outlet.tape c.settle.new.output) (sent (traffic x all) es)))
    c.wire-wire.ensures (c.settle.ensures.settled all k c0.past can quiet))

pub returns-clause-cut : goal.returns-clause-cut
returns-clause-cut g c = λ w all begun i s.
    let k = g.C.Core.cluster c.args.run.now.setup.now in
    let c0 = c.args.self.now.play.trace in
    let d = c.serve.new.self.trace in
    let link = c.args.self.now.intake.head.link in
    let e = c.in_ok-said.ensures.after w i in
    let a : Quietly c0 d = served w c.args.node c.args.worker c0 d e in
    let told = served_told w k c.args.node c.args.worker c0 d i e s.judged in
    let es = c.in_ok-said.said ∷ [] in
    let ev = events_behind c0 d a.moved es c.in_ok-said.ensures.told in
    let can = can_settle k (planned c.args.run.now.plan) link all c0 d a.moved es c.args.self.now.relay.waiting begun _ s told ev in
    let quiet = subst NoArrivals (sym ev) a.quiet in
    subst (λ (x : Trace). IfErr c.settle.result (λ fault. WroteUntil fault begun (g.O.Outlet.tape c.settle.new.output) (sent (traffic_of (planned c.args.run.now.plan) link all) (reverse x.past)))) e
    (cut_after k (planned c.args.run.now.plan) link all c0 d a.moved es c.args.self.now.relay.waiting begun _ _ c.settle.result s ev
    (subst (λ (x : Wire). IfErr c.settle.result (λ fault. WroteUntil fault (g.O.Outlet.tape c.args.output.now) (g.O.Outlet.tape c.settle.new.output) (sent (traffic x all) es)))
    c.wire-wire.ensures (c.settle.ensures.cut all k c0.past can quiet)))
