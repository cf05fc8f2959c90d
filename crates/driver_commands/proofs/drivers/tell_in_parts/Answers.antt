use Rattle.std.proofs.Common.{◌+◌, ◌-◌, ◌*◌, ◌%◌, ◌≡◌, length, min, ap, ◌∙◌, refl, arith}
use Rattle.event_trace.specs.declared.play.Tally.{Tally}
use Rattle.event_trace.specs.declared.steps.ScenarioStep.TheVariants.{Take}
use Rattle.event_trace.specs.Going.{GoesOver}
use Rattle.event_trace.specs.Steps.{world_of, after}
use Rattle.driver_commands.specs.Noting.{noting}
use Rattle.driver_commands.proofs.Taking.{taken_none, taken_more, taken_least, taken_counted}
use Rattle.driver_commands.proofs.drivers.tell_in_parts.Goals as goal

pub loop-init : goal.loop-init
loop-init g c = record {
  choice = λ live flow nth. refl;
  counted = record { read = c.requires.room.read; nth = omega (arith, c.requires.room.nth); unrouted = omega (arith, c.requires.room.unrouted); lost = c.requires.room.lost; skipped = omega (arith, c.requires.room.skipped) };
  taken = λ w e f h. taken_none w c.args.play.now.trace;
  told = λ nodes before. before;
}

pub loop-preserved : goal.loop-preserved
loop-preserved g c =
    let w = world_of noting (g.P.Spread.choice c.args.play.now.spread) c.args.packets.now in
    let old = c.loop.invariant in
    let more : c.loop.counter * 1024 + 1024 ≡ (c.loop.counter + 1) * 1024 = omega arith in
    let taken : GoesOver c.args.packets.now noting (g.P.Spread.choice c.args.play.now.spread) (λ v. after v (Take ((c.loop.counter + 1) * 1024))) c.args.play.now.trace c.tell_taken.new.play.trace =
    λ v e f h. taken_more v (c.loop.counter * 1024) 1024 ((c.loop.counter + 1) * 1024) c.args.play.now.trace c.loop.play.trace c.tell_taken.new.play.trace more (old.taken v e f h)
    (c.in_ok-tell_taken.ensures.after v e (λ live flow nth. f live flow nth ∙ old.choice live flow nth) h) in
    record {
      choice = λ live flow nth. old.choice live flow nth ∙ c.tell_taken.ensures.choice live flow nth;
      counted = taken_counted w ((c.loop.counter + 1) * 1024) c.args.play.now.trace c.tell_taken.new.play.trace (taken w refl (λ live flow nth. refl) refl) c.requires.room;
      taken = taken;
      told = λ nodes before. c.in_ok-tell_taken.ensures.told nodes (old.told nodes before);
    }

pub returns-clause-after : goal.returns-clause-after
returns-clause-after g c = λ w e f h.
    let old = c.loop.invariant in
    let done : c.loop.counter * 1024 + c.min-taken.result % 1024 ≡ c.min-taken.result = omega arith in
    let left : c.tally.result.left ≡ length c.args.packets.now - c.args.play.now.trace.read = ap (λ (t : Tally). t.left) c.tally.ensures in
    taken_more w (c.loop.counter * 1024) (c.min-taken.result % 1024) c.min-taken.result c.args.play.now.trace c.loop.play.trace c.tell_taken-2.new.play.trace done (old.taken w e f h)
    (c.in_ok-tell_taken-2.ensures.after w e (λ live flow nth. f live flow nth ∙ old.choice live flow nth) h)
    ∙ taken_least w c.args.packets.now c.args.count c.min-taken.result c.args.play.now.trace h (c.min-taken.ensures ∙ ap (min c.args.count) left)
