use Rattle.std.proofs.Common.{◌≡◌, ◌+◌, ◌∷◌, ◌++◌, [], ℕ, Some, None, slice_get, refl, sym, subst, ap, ◌∙◌, arith, reverse, option_map}
use Rattle.pcap_file.specs.Format.{packet}
use Rattle.event_trace.specs.Trace.{Trace}
use Rattle.event_trace.specs.Room.{Counted}
use Rattle.event_trace.specs.Steps.{world_of, deliver}
use Rattle.simulation.specs.PrivateSteps.{again_of}
use Rattle.event_trace.proofs.Moves.{deliver_hands}
use Rattle.event_trace.proofs.Coming.{repeat_some, repeat_none}
use Rattle.simulation.specs.Plans.{planned}
use Rattle.simulation.specs.Intake.{Taking, listed}
use Rattle.simulation.specs.Sent.{packet_in, packets_of, sent, WroteUntil}
use Rattle.simulation.specs.Simulated.{traffic_of}
use Rattle.simulation.specs.PrivateKeeping.{KeepsNamed}
use Rattle.simulation.specs.PrivateStages.{Sound}
use Rattle.simulation.specs.declared.staging.Stage.{Stage}
use Rattle.simulation.specs.declared.fault.SimulationFault.TheVariants.{Memory}
use Rattle.simulation.proofs.Exits.{at_exit, where_done, where_failed}
use Rattle.simulation.proofs.Reaching.{short_of, sound_same, is_there, packet_there, packet_none, repeated, reached_same, short_same, counted_again, counted_skip}
use Rattle.simulation.proofs.staging.Stage.again.Goals as goal

pub deliver-requires-clause-room : goal.deliver-requires-clause-room
deliver-requires-clause-room g c = omega (arith, c.requires.few.1, c.requires.few.2.read, c.requires.few.2.unrouted, c.given.ensures.few)

pub deliver-requires-clause-many : goal.deliver-requires-clause-many
deliver-requires-clause-many g c = omega (arith, c.requires.few.1, c.requires.few.2.read, c.requires.few.2.nth, c.given.ensures.few)

pub skip-requires : goal.skip-requires
skip-requires g c = omega (arith, c.requires.few.1, c.requires.few.2.skipped)

pub returns-in_err-frame-clause-short : goal.returns-in_err-frame-clause-short
returns-in_err-frame-clause-short g c = λ choice text begun left ss same r.
    at_exit c.from_residual.result Memory _ c.from_residual.ensures.1 (short_of _ _ (planned c.args.run.now.plan) text begun _ c.args.self.now _ _ r)

pub returns-in-None-clause-few : goal.returns-in-None-clause-few
returns-in-None-clause-few g c = λ n h.
    counted_skip c.args.self.now.intake.given n c.args.self.now.play.trace c.skip.new.self.trace c.skip.ensures.after h

pub returns-in-None-clause-reached : goal.returns-in-None-clause-reached
returns-in-None-clause-reached g c = λ choice text begun left ss same r.
    let cluster = g.C.Core.cluster c.args.run.now.setup.now in
    let plan = planned c.args.run.now.plan in
    let old = c.args.self.now in
    let new : Stage _ = record { play = c.skip.new.self; delivery = old.delivery; relay = old.relay; kept = c.take.new.self; intake = old.intake } in
    let skip = c.skip.ensures.after in
    let none : None ≡ slice_get r.seen c.args.place = sym (ap (λ o. option_map (λ f. packet f.value) o) c.in-None.is) ∙ c.in_ok-frame.ensures.record r.seen ss r.kept in
    reached_same cluster choice plan text begun (again_of c.args.place ∷ ss) ss old new left _ _ r (refl, refl, refl, refl, refl) (ap (λ (x : Trace). x.read) skip) (c.in_ok-frame.ensures.keeps r.seen ss r.kept)
    (λ more l. let w = world_of cluster choice (packets_of old.intake.head.link plan.check (r.seen ++ more)) in
    repeated cluster choice plan old.intake.head.link (r.seen ++ more) c.args.place ss old.play.trace new.play.trace None
    (packet_none old.intake.head.link plan.check r.seen more c.args.place old.play.trace.read r.place none)
    (skip ∙ sym (repeat_none w c.args.place old.play.trace)) l)
    (λ more s. sound_same cluster plan old.intake.head.link (r.seen ++ more) old.play.trace new.play.trace old.relay.waiting old.relay.waiting begun _ (ap (λ (x : Trace). x.past) skip) refl s)

pub returns-in-Some-clause-few : goal.returns-in-Some-clause-few
returns-in-Some-clause-few g c = λ n h. where_done c.deliver.result _ (λ got.
    let w0 = world_of (g.C.Core.cluster c.args.run.now.setup.now) (g.P.Spread.choice c.args.self.now.play.spread) [] in
    let same : c.deliver.new.self.intake.given ≡ c.args.self.now.intake.given = c.deliver.ensures.intake.0 ∙ ap (λ (t : Taking). t.given) c.lend.ensures in
    subst (λ (m : ℕ). Counted m (n + 1) c.deliver.new.self.play.trace) (sym same)
    (counted_again c.args.self.now.intake.given n w0 _ c.args.self.now.play.trace c.deliver.new.self.play.trace c.args.place (got _ c.deliver.ensures.play w0 refl (λ live flow nth. refl)) h))

pub returns-in-Some-clause-reached : goal.returns-in-Some-clause-reached
returns-in-Some-clause-reached g c = λ choice text begun left ss same r. where_done c.deliver.result _ (λ done.
    let cluster = g.C.Core.cluster c.args.run.now.setup.now in
    let plan = planned c.args.run.now.plan in
    let old = c.args.self.now in
    let new = c.deliver.new.self in
    let link = old.intake.head.link in
    let x = packet c.in-Some.frame.value in
    let got : Some x ≡ slice_get r.seen c.args.place = sym (ap (λ o. option_map (λ f. packet f.value) o) c.in-Some.is) ∙ c.in_ok-frame.ensures.record r.seen ss r.kept in
    let rest = c.lend.ensures in
    let w0 = world_of cluster choice [] in
    let after = done _ c.deliver.ensures.play in
    reached_same cluster choice plan text begun (again_of c.args.place ∷ ss) ss old new left _ _ r
    (c.deliver.ensures.intake.0 ∙ ap (λ (t : Taking). t.given) rest, c.deliver.ensures.intake.1 ∙ ap (λ (t : Taking). t.ended) rest, c.deliver.ensures.intake.2 ∙ ap (λ (t : Taking). t.head) rest, c.deliver.ensures.intake.3 ∙ ap (λ (t : Taking). t.ahead) rest, c.deliver.ensures.intake.4 ∙ ap (λ (t : Taking). t.first) rest)
    (ap (λ (y : Trace). y.read) (after w0 refl same) ∙ (deliver_hands w0 c.args.place _ old.play.trace).read)
    (subst (KeepsNamed r.seen ss) (sym c.deliver.ensures.kept) (c.in_ok-frame.ensures.keeps r.seen ss r.kept))
    (λ more l. let all = r.seen ++ more in
    let w = world_of cluster choice (packets_of link plan.check all) in
    let there = is_there r.seen more c.args.place x got in
    repeated cluster choice plan link all c.args.place ss old.play.trace new.play.trace (Some (packet_in link plan.check x))
    (packet_there link plan.check all c.args.place old.play.trace.read (Some x) (omega (arith, there.0, r.place)) there.1)
    (after w refl same ∙ ap (λ (t : Taking). deliver w c.args.place (packet_in t.head.link plan.check t.record_read) old.play.trace) rest ∙ sym (repeat_some w c.args.place (packet_in link plan.check x) old.play.trace)) l)
    (λ more s. let all = r.seen ++ more in
    subst (λ (t : Taking). Sound cluster plan t.head.link all new.play.trace new.relay.waiting begun (g.O.Outlet.tape c.deliver.new.output)) rest
    (done _ (c.deliver.ensures.sound all begun
    (subst (λ (t : Taking). Sound cluster plan t.head.link all old.play.trace old.relay.waiting begun (g.O.Outlet.tape c.args.output.now)) (sym rest) s)
    ((is_there r.seen more c.args.place x got).1 ∙ ap (λ (t : Taking). Some t.record_read) (sym rest))))))

pub returns-in-Some-clause-short : goal.returns-in-Some-clause-short
returns-in-Some-clause-short g c = λ choice text begun left ss same r. where_failed c.deliver.result _ (λ fault failed.
    let cluster = g.C.Core.cluster c.args.run.now.setup.now in
    let plan = planned c.args.run.now.plan in
    let old = c.args.self.now in
    let link = old.intake.head.link in
    let x = packet c.in-Some.frame.value in
    let got : Some x ≡ slice_get r.seen c.args.place = sym (ap (λ o. option_map (λ f. packet f.value) o) c.in-Some.is) ∙ c.in_ok-frame.ensures.record r.seen ss r.kept in
    let all = r.seen ++ listed old.intake.ahead in
    let there = is_there r.seen (listed old.intake.ahead) c.args.place x got in
    let rest = c.lend.ensures in
    let w = world_of cluster choice (packets_of link plan.check all) in
    let d : Trace = deliver w c.args.place (packet_in link plan.check x) old.play.trace in
    short_same cluster choice plan text begun (again_of c.args.place ∷ ss) ss old left _ _ d fault r (failed _ c.deliver.ensures.named)
    (λ l. repeated cluster choice plan link all c.args.place ss old.play.trace d (Some (packet_in link plan.check x))
    (packet_there link plan.check all c.args.place old.play.trace.read (Some x) (omega (arith, there.0, r.place)) there.1)
    (sym (repeat_some w c.args.place (packet_in link plan.check x) old.play.trace)) l)
    (λ s. subst (λ (t : Taking). WroteUntil fault begun (g.O.Outlet.tape c.deliver.new.output) (sent (traffic_of plan t.head.link all) (reverse (deliver w c.args.place (packet_in t.head.link plan.check t.record_read) old.play.trace).past))) rest
    (failed _ (c.deliver.ensures.cut w all begun refl same
    (subst (λ (t : Taking). Sound cluster plan t.head.link all old.play.trace old.relay.waiting begun (g.O.Outlet.tape c.args.output.now)) (sym rest) s)
    (there.1 ∙ ap (λ (t : Taking). Some t.record_read) (sym rest))))))
