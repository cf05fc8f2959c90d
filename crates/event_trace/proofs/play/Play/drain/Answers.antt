use Rattle.std.proofs.Common.{ℕ, ◌+◌, ◌-◌, sym, ◌∙◌, ap, arith}
use Rattle.cluster_core.specs.Cluster.{Cluster, waiting_on}
use Rattle.event_trace.specs.Trace.{Trace}
use Rattle.event_trace.specs.Steps.{drain_from, serve_times}
use Rattle.event_trace.proofs.Repeats.{drain_next}
use Rattle.event_trace.proofs.play.Play.drain.Goals as goal

pub loop-worker-preserved : goal.loop-worker-preserved
loop-worker-preserved g c = record {
  stands = c.in_ok-serve_times.ensures.stands;
  spread = c.serve_times.ensures.spread ∙ c.loop-worker.invariant.spread;
  told = λ before h. c.in_ok-serve_times.ensures.told before (c.loop-worker.invariant.told before h);
  rest = λ w j. ap (λ (d : Trace). drain_from w c.args.node (c.loop-worker.worker + 1) (c.args.workers - (c.loop-worker.worker + 1)) d) (c.in_ok-serve_times.ensures.after w j
      ∙ ap (λ (m : ℕ). serve_times w c.args.node c.loop-worker.worker m c.loop-worker.self.trace) (c.waiting-times.ensures c.loop-worker.self.trace.past c.loop-worker.invariant.stands ∙ ap (λ (k : Cluster). waiting_on k c.args.node c.loop-worker.worker c.loop-worker.self.trace.past) (sym j)))
      ∙ sym (drain_next w c.args.node c.args.workers c.loop-worker.worker c.loop-worker.self.trace (omega arith)) ∙ c.loop-worker.invariant.rest w j;
}
