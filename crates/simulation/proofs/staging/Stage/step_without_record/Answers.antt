use Rattle.std.proofs.Common.{◌+◌, ◌∷◌, ◌++◌, [], refl, sym, subst, ap}
use Rattle.event_trace.specs.Trace.{Trace}
use Rattle.event_trace.specs.Room.{Counted}
use Rattle.event_trace.specs.Steps.{world_of, after}
use Rattle.simulation.specs.Plans.{planned}
use Rattle.simulation.specs.Intake.{Taking, listed}
use Rattle.simulation.specs.PrivateSteps.{by_count}
use Rattle.simulation.specs.Sent.{packets_of}
use Rattle.simulation.specs.PrivateKeeping.{KeepsNamed}
use Rattle.simulation.proofs.Exits.{where_done, where_failed}
use Rattle.simulation.proofs.Reaching.{reached_same, short_same, stepped_left, counted_apart, read_apart, kept_apart}
use Rattle.simulation.proofs.staging.Stage.step_without_record.Goals as goal

pub returns-clause-few : goal.returns-clause-few
returns-clause-few g c = λ n h. where_done c.settle_without_record.result _ (λ got.
    let w0 = world_of (g.C.Core.cluster c.args.run.now.setup.now) (g.P.Spread.choice c.args.self.now.play.spread) [] in
    subst (λ (t : Taking). Counted t.given (n + 1) c.settle_without_record.new.self.play.trace) (sym c.settle_without_record.ensures.intake)
    (counted_apart c.args.self.now.intake.given n w0 c.args.step.now c.args.self.now.play.trace c.settle_without_record.new.self.play.trace c.requires.apart (got _ c.settle_without_record.ensures.play w0 refl c.requires.apart) h))

pub returns-clause-reached : goal.returns-clause-reached
returns-clause-reached g c = λ choice text begun left ss r. where_done c.settle_without_record.result _ (λ got.
    let cluster = g.C.Core.cluster c.args.run.now.setup.now in
    let plan = planned c.args.run.now.plan in
    let old = c.args.self.now in
    let new = c.settle_without_record.new.self in
    let same = c.settle_without_record.ensures.intake in
    let w0 = world_of cluster choice [] in
    let after = got _ c.settle_without_record.ensures.play in
    reached_same cluster choice plan text begun (by_count c.args.step.now ∷ ss) ss old new left _ _ r
    (ap (λ (t : Taking). t.given) same, ap (λ (t : Taking). t.ended) same, ap (λ (t : Taking). t.head) same, ap (λ (t : Taking). t.ahead) same, ap (λ (t : Taking). t.first) same)
    (read_apart w0 c.args.step.now old.play.trace new.play.trace c.requires.apart (after w0 refl c.requires.apart))
    (subst (KeepsNamed r.seen ss) (sym c.settle_without_record.ensures.kept) (kept_apart r.seen c.args.step.now ss old.kept c.requires.apart r.kept))
    (λ more l. stepped_left cluster choice plan old.intake.head.link (r.seen ++ more) c.args.step.now ss old.play.trace new.play.trace c.requires.apart (after (world_of cluster choice (packets_of old.intake.head.link plan.check (r.seen ++ more))) refl c.requires.apart) l)
    (λ more s. got _ (c.settle_without_record.ensures.sound c.requires.apart (r.seen ++ more) begun s)))

pub returns-clause-short : goal.returns-clause-short
returns-clause-short g c = λ choice text begun left ss r. where_failed c.settle_without_record.result _ (λ fault got.
    let cluster = g.C.Core.cluster c.args.run.now.setup.now in
    let plan = planned c.args.run.now.plan in
    let old = c.args.self.now in
    let all = r.seen ++ listed old.intake.ahead in
    let w = world_of cluster choice (packets_of old.intake.head.link plan.check all) in
    let d : Trace = after w c.args.step.now old.play.trace in
    short_same cluster choice plan text begun (by_count c.args.step.now ∷ ss) ss old left _ _ d fault r (got _ c.settle_without_record.ensures.named)
    (λ l. stepped_left cluster choice plan old.intake.head.link all c.args.step.now ss old.play.trace d c.requires.apart refl l)
    (λ s. got _ (c.settle_without_record.ensures.cut c.requires.apart w all begun refl s)))
