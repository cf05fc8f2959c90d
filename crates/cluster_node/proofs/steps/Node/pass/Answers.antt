use Rattle.cluster_node.proofs.Passing.{pass_said}
use Rattle.cluster_node.proofs.steps.Node.pass.Goals as goal

pub returns-clause-verdict : goal.returns-clause-verdict
returns-clause-verdict g c = λ rules past same all st. pass_said (λ s z. g.S.Scheme.pick s z) rules c.args.versions.now past c.args.self.now c.pass_packet.new.self c.args.node c.args.packet c.args.refused.now c.args.body.now (g.H.FlowHash.plain c.args.hash.now) c.pass_packet.new.passed c.pass_packet.result same all st c.pass_packet.ensures.passed c.pass_packet.ensures.after
