use Rattle.std.proofs.Common.{◌∙◌}
use Rattle.cluster_core.proofs.Between.{newest_is}
use Rattle.cluster_core.proofs.running.Run.newest.Goals as goal

pub returns-clause-said : goal.returns-clause-said
returns-clause-said g c = λ rules past st. c.newest_of.ensures ∙ newest_is (λ s z. g.S.Scheme.pick s z) rules past c.args.self.now st c.args.node
