use Rattle.std.proofs.Common.{◌∙◌, ap, sym, arith}
use Rattle.std.proofs.lemmas.Bool.{ne_eqb}
use Rattle.steering.specs.Steering.{Steering}
use Rattle.cluster_node.specs.NodeView.{NodeView}
use Rattle.cluster_node.proofs.Passing.{placed_passes}
use Rattle.cluster_node.proofs.steps.Node.pass_flow.Goals as goal
use Rattle.std.proofs.lemmas.Grind.{common_steps}

pub returns-in-Worker-clause-passed : goal.returns-in-Worker-clause-passed
returns-in-Worker-clause-passed g c =
    let m : NodeView = record { newest = c.self.inside.newest; installed = c.self.inside.installed.items; cursor = c.self.inside.steerer.cursor; workers = c.self.inside.workers.items } in
    (placed_passes (λ s z. g.S.Scheme.pick s z) c.args.versions.now (g.H.FlowHash.plain c.args.hash.now) m c.args.node c.args.packet c.args.refused.now c.args.flow.now c.args.at c.in-Worker.worker c.index_mut-one.result.now c.args.self.now c.pass_one.new.one c.pass_one.new.passed c.has-installed.result c.self.inside.steerer.workers c.place.new.self.cursor c.pass_one.result
    c.self.view_is (ne_eqb _ _ c.if-self-eq0.false) c.self.invariant.0 (sym c.place.ensures.place ∙ c.in-Worker.is) (ap (λ (s : Steering). s.cursor) c.place.ensures.after) (omega (arith, c.in-Worker.ensures.below, c.self.invariant.0)) c.index_mut-one.ensures.value c.has-installed.ensures c.pass_one.ensures.passed c.pass_one.ensures.after).0

pub returns-in-Worker-clause-after : goal.returns-in-Worker-clause-after
returns-in-Worker-clause-after g c =
    let m : NodeView = record { newest = c.self.inside.newest; installed = c.self.inside.installed.items; cursor = c.self.inside.steerer.cursor; workers = c.self.inside.workers.items } in
    (placed_passes (λ s z. g.S.Scheme.pick s z) c.args.versions.now (g.H.FlowHash.plain c.args.hash.now) m c.args.node c.args.packet c.args.refused.now c.args.flow.now c.args.at c.in-Worker.worker c.index_mut-one.result.now c.args.self.now c.pass_one.new.one c.pass_one.new.passed c.has-installed.result c.self.inside.steerer.workers c.place.new.self.cursor c.pass_one.result
    c.self.view_is (ne_eqb _ _ c.if-self-eq0.false) c.self.invariant.0 (sym c.place.ensures.place ∙ c.in-Worker.is) (ap (λ (s : Steering). s.cursor) c.place.ensures.after) (omega (arith, c.in-Worker.ensures.below, c.self.invariant.0)) c.index_mut-one.ensures.value c.has-installed.ensures c.pass_one.ensures.passed c.pass_one.ensures.after).1

pub returns-then-self-eq0-clause-passed : goal.returns-then-self-eq0-clause-passed
returns-then-self-eq0-clause-passed g c = grind (arith, common_steps)

pub returns-then-self-eq0-clause-after : goal.returns-then-self-eq0-clause-after
returns-then-self-eq0-clause-after g c = grind (arith, common_steps)

pub returns-then-self-eq0-clause-kept : goal.returns-then-self-eq0-clause-kept
returns-then-self-eq0-clause-kept g c = grind (arith, common_steps)

pub returns-in-RingsFull-clause-passed : goal.returns-in-RingsFull-clause-passed
returns-in-RingsFull-clause-passed g c = grind (arith, common_steps)

pub returns-in-RingsFull-clause-after : goal.returns-in-RingsFull-clause-after
returns-in-RingsFull-clause-after g c = grind (arith, common_steps)

pub returns-in-RingsFull-clause-kept : goal.returns-in-RingsFull-clause-kept
returns-in-RingsFull-clause-kept g c = grind (arith, common_steps)

pub returns-in-Worker-clause-kept : goal.returns-in-Worker-clause-kept
returns-in-Worker-clause-kept g c = grind (arith, common_steps)
