use Rattle.std.proofs.Common.{◌+◌, ◌-◌, sym, ◌∙◌, ap, arith}
use Rattle.event_trace.specs.Trace.{Trace}
use Rattle.event_trace.specs.Steps.{serve_times}
use Rattle.event_trace.proofs.Repeats.{serve_next}
use Rattle.event_trace.proofs.play.Play.serve_times.Goals as goal

pub loop-preserved : goal.loop-preserved
loop-preserved g c = record {
  stands = c.in_ok-serve_onto.ensures.stands;
  spread = c.serve_onto.ensures.spread ∙ c.loop.invariant.spread;
  told = λ before h. c.in_ok-serve_onto.ensures.told before (c.loop.invariant.told before h);
  rest = λ w j. ap (λ (d : Trace). serve_times w c.args.node c.args.worker (c.args.times - (c.loop.counter + 1)) d) (c.in_ok-serve_onto.ensures.after w j)
      ∙ sym (serve_next w c.args.node c.args.worker c.args.times c.loop.counter c.loop.self.trace (omega arith)) ∙ c.loop.invariant.rest w j;
}
