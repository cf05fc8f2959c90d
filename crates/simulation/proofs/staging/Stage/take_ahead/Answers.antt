use Rattle.std.proofs.Common.{Bool, ◌≡◌, ◌+◌, ◌∷◌, ◌++◌, [], ℕ, refl, sym, subst, ap, ◌∙◌, arith, reverse}
use Rattle.pcap_file.specs.declared.format.Head.{Head}
use Rattle.event_trace.specs.Trace.{Trace}
use Rattle.event_trace.proofs.Moves.{handed_next}
use Rattle.event_trace.proofs.Choosing.{same_choice, chosen_still}
use Rattle.event_trace.specs.Room.{Counted}
use Rattle.event_trace.specs.Steps.{world_of, deliver}
use Rattle.simulation.specs.PrivateSteps.{take_of}
use Rattle.simulation.specs.Plans.{planned}
use Rattle.simulation.specs.Sent.{packet_in, packets_of, sent, WroteUntil}
use Rattle.simulation.specs.Simulated.{traffic_of}
use Rattle.simulation.specs.Intake.{SeenMore}
use Rattle.simulation.specs.PrivateKeeping.{KeepsNamed}
use Rattle.simulation.specs.PrivateStages.{Sound}
use Rattle.simulation.proofs.Exits.{at_exit}
use Rattle.simulation.proofs.Named.{at_place}
use Rattle.simulation.proofs.Reaching.{short_read, reached_end, took_all, OneMore, same_trace, seen_same, reached_more, short_more, took, sound_same, counted_taken, delivered_same}
use Rattle.simulation.proofs.staging.Stage.take_ahead.Goals as goal

pub returns-then-not-more-clause-reached : goal.returns-then-not-more-clause-reached
returns-then-not-more-clause-reached g c = λ choice text begun ss k same r.
    let cluster = g.C.Core.cluster c.args.run.now.setup.now in
    reached_end cluster choice (planned c.args.run.now.plan) text begun (take_of (k + 1)) ss c.args.self.now c.read_one.new.self _ _ _ r (subst (λ (b : Bool). SeenMore b text r.seen (g.I.Source.tape c.read_one.new.input) c.read_one.new.self.intake) c.if-not-more.true (c.in_ok-more.ensures.more text r.seen r.read)) (c.in_ok-more.ensures.clear c.if-not-more.true)
    (same_trace c.in_ok-more.ensures.play) c.in_ok-more.ensures.relay (subst (KeepsNamed r.seen ss) (sym (c.in_ok-more.ensures.none c.if-not-more.true).1) r.kept) c.in_ok-more.ensures.head
    (λ link l. took_all cluster choice (planned c.args.run.now.plan) link r.seen (k + 1) ss c.args.self.now.play.trace r.place l)

pub returns-in_err-more-clause-short : goal.returns-in_err-more-clause-short
returns-in_err-more-clause-short g c = λ choice text begun ss k same r.
    at_exit c.from_residual.result c.in_err-more.field-0.0 _ c.from_residual.ensures.1
    (short_read (g.C.Core.cluster c.args.run.now.setup.now) choice (planned c.args.run.now.plan) text begun (take_of (k + 1) ∷ ss) c.args.self.now _ _ _ c.in_err-more.field-0.0 r c.in_err-more.ensures.unwritten (c.in_err-more.ensures.stops text r.seen r.read))

pub next_place-place-requires : goal.next_place-place-requires
next_place-place-requires g c = omega (arith, c.requires.few.2.read, c.in_ok-more.ensures.few, (c.in_ok-more.ensures.same c.if-not-more.false).1, ap (λ (x : Trace). x.read) (same_trace c.in_ok-more.ensures.play))

pub returns-clause-few : goal.returns-clause-few
returns-clause-few g c = λ n h.
    let w0 = world_of (g.C.Core.cluster c.args.run.now.setup.now) (g.P.Spread.choice c.args.self.now.play.spread) [] in
    let s = c.next_place-place.new.self.trace in
    let moved : s ≡ record c.args.self.now.play.trace { read = c.args.self.now.play.trace.read + 1 } = c.next_place-place.ensures.after ∙ ap (λ (x : Trace). record x { read = x.read + 1 }) (same_trace c.in_ok-more.ensures.play) in
    let t = counted_taken c.args.self.now.intake.given n w0 _ c.args.self.now.play.trace s c.deliver.new.self.play.trace c.next_place-place.result moved (c.in_ok-deliver.ensures.play w0 refl (same_choice (λ x. g.P.Spread.choice x) (sym (c.next_place-place.ensures.spread ∙ ap (λ x. x.spread) c.in_ok-more.ensures.play)))) h in
    subst (λ (m : ℕ). Counted m n c.deliver.new.self.play.trace) (sym (c.in_ok-deliver.ensures.intake.0 ∙ (c.in_ok-more.ensures.same c.if-not-more.false).1)) t

pub returns-clause-reached : goal.returns-clause-reached
returns-clause-reached g c = λ choice text begun ss k same r.
    let cluster = g.C.Core.cluster c.args.run.now.setup.now in
    let plan = planned c.args.run.now.plan in
    let old = c.args.self.now in
    let mid = c.read_one.new.self in
    let new = c.deliver.new.self in
    let link = old.intake.head.link in
    let x = mid.intake.record_read in
    let s = c.next_place-place.new.self.trace in
    let read = subst (λ (b : Bool). SeenMore b text r.seen (g.I.Source.tape c.read_one.new.input) mid.intake) c.if-not-more.false (c.in_ok-more.ensures.more text r.seen r.read) in
    let moved : s ≡ record old.play.trace { read = old.play.trace.read + 1 } = c.next_place-place.ensures.after ∙ ap (λ (y : Trace). record y { read = y.read + 1 }) (same_trace c.in_ok-more.ensures.play) in
    let place : c.next_place-place.result ≡ old.play.trace.read = c.next_place-place.ensures.place ∙ ap (λ (y : Trace). y.read) (same_trace c.in_ok-more.ensures.play) in
    let more : OneMore text r.seen x old new (g.I.Source.tape c.read_one.new.input) = record {
      read = seen_same mid.intake new.intake text _ (r.seen ++ x ∷ []) c.in_ok-deliver.ensures.intake read.0;
      going = sym (c.in_ok-more.ensures.same c.if-not-more.false).0 ∙ read.1;
      next = c.in_ok-more.ensures.is_next c.if-not-more.false;
      clear = c.in_ok-deliver.ensures.intake.3 ∙ read.2;
      head = c.in_ok-deliver.ensures.intake.2 ∙ c.in_ok-more.ensures.head;
    } in
    reached_more cluster choice plan text begun (take_of (k + 1) ∷ ss) (take_of k ∷ ss) old new _ _ _ _ x r more
    (handed_next (world_of cluster choice []) _ old.play.trace s new.play.trace c.next_place-place.result moved (c.in_ok-deliver.ensures.play (world_of cluster choice []) refl (chosen_still (λ x. g.P.Spread.choice x) same (c.next_place-place.ensures.spread ∙ ap (λ x. x.spread) c.in_ok-more.ensures.play)))).0
    (rw c.in_ok-deliver.ensures.kept (c.in_ok-more.ensures.keeps r.seen (take_of k ∷ ss) r.read.count r.kept c.if-not-more.false))
    (λ rest l. let w = world_of cluster choice (packets_of link plan.check (r.seen ++ x ∷ rest)) in
    took cluster choice plan link r.seen rest x k ss old.play.trace new.play.trace r.place
    (c.in_ok-deliver.ensures.play w refl (chosen_still (λ x. g.P.Spread.choice x) same (c.next_place-place.ensures.spread ∙ ap (λ x. x.spread) c.in_ok-more.ensures.play)) ∙ delivered_same w plan.check x mid.intake.head old.intake.head c.next_place-place.result old.play.trace.read s (record old.play.trace { read = old.play.trace.read + 1 }) c.in_ok-more.ensures.head place moved) l)
    (λ rest sound. subst (λ (h : Head). Sound cluster plan h.link (r.seen ++ x ∷ rest) new.play.trace new.relay.waiting begun (g.O.Outlet.tape c.deliver.new.output)) c.in_ok-more.ensures.head
    (c.in_ok-deliver.ensures.sound (r.seen ++ x ∷ rest) begun
    (subst (λ (h : Head). Sound cluster plan h.link (r.seen ++ x ∷ rest) s mid.relay.waiting begun (g.O.Outlet.tape c.args.output.now)) (sym c.in_ok-more.ensures.head)
    (sound_same cluster plan link (r.seen ++ x ∷ rest) old.play.trace s old.relay.waiting mid.relay.waiting begun (g.O.Outlet.tape c.args.output.now) (ap (λ (y : Trace). y.past) moved) (ap (λ y. y.waiting) c.in_ok-more.ensures.relay) sound))
    (at_place r.seen rest x c.next_place-place.result (place ∙ r.place))))

pub returns-in_err-deliver-clause-short : goal.returns-in_err-deliver-clause-short
returns-in_err-deliver-clause-short g c = λ choice text begun ss k same r.
    let cluster = g.C.Core.cluster c.args.run.now.setup.now in
    let plan = planned c.args.run.now.plan in
    let old = c.args.self.now in
    let mid = c.read_one.new.self in
    let link = old.intake.head.link in
    let x = mid.intake.record_read in
    let s = c.next_place-place.new.self.trace in
    let read = subst (λ (b : Bool). SeenMore b text r.seen (g.I.Source.tape c.read_one.new.input) mid.intake) c.if-not-more.false (c.in_ok-more.ensures.more text r.seen r.read) in
    let moved : s ≡ record old.play.trace { read = old.play.trace.read + 1 } = c.next_place-place.ensures.after ∙ ap (λ (y : Trace). record y { read = y.read + 1 }) (same_trace c.in_ok-more.ensures.play) in
    let place : c.next_place-place.result ≡ old.play.trace.read = c.next_place-place.ensures.place ∙ ap (λ (y : Trace). y.read) (same_trace c.in_ok-more.ensures.play) in
    let more : OneMore text r.seen x old mid (g.I.Source.tape c.read_one.new.input) = record {
      read = read.0;
      going = sym (c.in_ok-more.ensures.same c.if-not-more.false).0 ∙ read.1;
      next = c.in_ok-more.ensures.is_next c.if-not-more.false;
      clear = read.2;
      head = c.in_ok-more.ensures.head;
    } in
    let w = world_of cluster choice (packets_of link plan.check (r.seen ++ x ∷ [])) in
    let d : Trace = deliver w old.play.trace.read (packet_in link plan.check x) (record old.play.trace { read = old.play.trace.read + 1 }) in
    at_exit c.from_residual-in_err-deliver.result c.in_err-deliver.field-0.0 _ c.from_residual-in_err-deliver.ensures.1
    (short_more cluster choice plan text begun (take_of (k + 1) ∷ ss) (take_of k ∷ ss) old mid _ _ _ _ x d c.in_err-deliver.field-0.0 r more c.in_err-deliver.ensures.named
    (λ l. took cluster choice plan link r.seen [] x k ss old.play.trace d r.place refl l)
    (λ sound. subst (λ (y : Trace). WroteUntil c.in_err-deliver.field-0.0 begun (g.O.Outlet.tape c.deliver.new.output) (sent (traffic_of plan link (r.seen ++ x ∷ [])) (reverse y.past)))
    (delivered_same w plan.check x mid.intake.head old.intake.head c.next_place-place.result old.play.trace.read s (record old.play.trace { read = old.play.trace.read + 1 }) c.in_ok-more.ensures.head place moved)
    (subst (λ (h : Head). WroteUntil c.in_err-deliver.field-0.0 begun (g.O.Outlet.tape c.deliver.new.output) (sent (traffic_of plan h.link (r.seen ++ x ∷ [])) (reverse (deliver w c.next_place-place.result (packet_in mid.intake.head.link plan.check x) s).past))) c.in_ok-more.ensures.head
    (c.in_err-deliver.ensures.cut w (r.seen ++ x ∷ []) begun refl (chosen_still (λ x. g.P.Spread.choice x) same (c.next_place-place.ensures.spread ∙ ap (λ x. x.spread) c.in_ok-more.ensures.play))
    (subst (λ (h : Head). Sound cluster plan h.link (r.seen ++ x ∷ []) s mid.relay.waiting begun (g.O.Outlet.tape c.args.output.now)) (sym c.in_ok-more.ensures.head)
    (sound_same cluster plan link (r.seen ++ x ∷ []) old.play.trace s old.relay.waiting mid.relay.waiting begun (g.O.Outlet.tape c.args.output.now) (ap (λ (y : Trace). y.past) moved) (ap (λ y. y.waiting) c.in_ok-more.ensures.relay) sound))
    (at_place r.seen [] x c.next_place-place.result (place ∙ r.place))))))

pub returns-clause-grows : goal.returns-clause-grows
returns-clause-grows g c = λ more. (c.in_ok-deliver.ensures.intake.0 ∙ (c.in_ok-more.ensures.same c.if-not-more.false).1, omega (arith, c.in_ok-deliver.ensures.intake.0, c.in_ok-more.ensures.few))
