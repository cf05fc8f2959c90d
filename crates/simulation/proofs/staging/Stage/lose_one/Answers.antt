use Rattle.std.proofs.Common.{Bool, ◌≡◌, ◌+◌, ◌∷◌, ◌++◌, sym, subst, ap, ◌∙◌}
use Rattle.event_trace.specs.Trace.{Trace}
use Rattle.simulation.specs.PrivateSteps.{lose_of}
use Rattle.simulation.specs.Intake.{SeenMore}
use Rattle.simulation.specs.PrivateKeeping.{KeepsNamed}
use Rattle.simulation.specs.declared.staging.Stage.{Stage}
use Rattle.simulation.proofs.Exits.{at_exit}
use Rattle.simulation.proofs.Reaching.{short_read, reached_end, lost_all, OneMore, same_trace, reached_more, lost, sound_same}
use Rattle.simulation.proofs.staging.Stage.lose_one.Goals as goal

pub returns-then-not-more-clause-reached : goal.returns-then-not-more-clause-reached
returns-then-not-more-clause-reached g c = λ cluster choice plan text begun out ss k r.
    reached_end cluster choice plan text begun (lose_of (k + 1)) ss c.args.self.now c.read_one.new.self _ _ _ r
    (subst (λ (b : Bool). SeenMore b text r.seen (g.I.Source.tape c.read_one.new.input) c.read_one.new.self.intake) c.if-not-more.true (c.in_ok-more.ensures.more text r.seen r.read)) (c.in_ok-more.ensures.clear c.if-not-more.true)
    (same_trace c.in_ok-more.ensures.play) c.in_ok-more.ensures.relay (subst (KeepsNamed r.seen ss) (sym (c.in_ok-more.ensures.none c.if-not-more.true).1) r.kept) c.in_ok-more.ensures.head
    (λ link l. lost_all cluster choice plan link r.seen (k + 1) ss c.args.self.now.play.trace r.place l)

pub returns-clause-reached : goal.returns-clause-reached
returns-clause-reached g c = λ cluster choice plan text begun out ss k r.
    let old = c.args.self.now in
    let mid = c.read_one.new.self in
    let new : Stage _ = record { play = c.lose.new.self; delivery = mid.delivery; relay = mid.relay; kept = mid.kept; intake = mid.intake } in
    let x = mid.intake.record_read in
    let read = subst (λ (b : Bool). SeenMore b text r.seen (g.I.Source.tape c.read_one.new.input) mid.intake) c.if-not-more.false (c.in_ok-more.ensures.more text r.seen r.read) in
    let moved : new.play.trace ≡ record old.play.trace { read = old.play.trace.read + 1; lost = old.play.trace.lost + 1 } = c.lose.ensures.after ∙ ap (λ (y : Trace). record y { read = y.read + 1; lost = y.lost + 1 }) (same_trace c.in_ok-more.ensures.play) in
    let more : OneMore text r.seen x old new (g.I.Source.tape c.read_one.new.input) = record {
      read = read.0;
      going = sym (c.in_ok-more.ensures.same c.if-not-more.false).0 ∙ read.1;
      next = c.in_ok-more.ensures.is_next c.if-not-more.false;
      clear = read.2;
      head = c.in_ok-more.ensures.head;
    } in
    reached_more cluster choice plan text begun (lose_of (k + 1) ∷ ss) (lose_of k ∷ ss) old new _ _ _ _ x r more
    (ap (λ (y : Trace). y.read) moved) (c.in_ok-more.ensures.keeps r.seen (lose_of k ∷ ss) r.read.count r.kept c.if-not-more.false)
    (λ rest l. lost cluster choice plan old.intake.head.link r.seen rest x k ss old.play.trace new.play.trace r.place moved l)
    (λ rest sound. sound_same cluster plan old.intake.head.link (r.seen ++ x ∷ rest) old.play.trace new.play.trace old.relay.waiting new.relay.waiting begun out (ap (λ (y : Trace). y.past) moved) (ap (λ y. y.waiting) c.in_ok-more.ensures.relay) sound)

pub returns-in_err-more-clause-short : goal.returns-in_err-more-clause-short
returns-in_err-more-clause-short g c = λ cluster choice plan text begun out ss r.
    at_exit c.from_residual.result c.in_err-more.field-0.0 _ c.from_residual.ensures.1
    (short_read cluster choice plan text begun ss c.args.self.now _ _ out c.in_err-more.field-0.0 r c.in_err-more.ensures.unwritten (c.in_err-more.ensures.stops text r.seen r.read))
