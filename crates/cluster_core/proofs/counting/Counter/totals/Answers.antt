use Rattle.std.proofs.Common.{◌∙◌}
use Rattle.cluster_core.proofs.Bumps.{of_arrivals, of_forwards, of_refused, lawful}
use Rattle.cluster_core.proofs.counting.Counter.totals.Goals as goal

pub returns : goal.returns
returns c = λ all h. record {
  received = of_arrivals all c.args.self.now.kinds c.args.self.now.received c.args.self.now.lost h;
  forwarded = c.of.ensures ∙ of_forwards all c.args.self.now.kinds c.args.self.now.received c.args.self.now.lost h;
  drops = c.drops.ensures all h;
  waiting = c.waiting.ensures all h;
  law = lawful all c.args.self.now.received c.of.result c.waiting.result c.drops.result (of_arrivals all c.args.self.now.kinds c.args.self.now.received c.args.self.now.lost h) (c.of.ensures ∙ of_forwards all c.args.self.now.kinds c.args.self.now.received c.args.self.now.lost h) (c.drops.ensures all h) (c.waiting.ensures all h);
  refused = c.of-2.ensures ∙ of_refused all c.args.self.now.kinds c.args.self.now.received c.args.self.now.lost h;
}
