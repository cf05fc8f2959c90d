use Rattle.cluster_core.specs.Setups.{rules_for}
use Rattle.node_life.proofs.Telling.{refusal_tells}
use Rattle.node_life.proofs.life.run_threads.Goals as goal

pub returns-in-Err : goal.returns-in-Err
returns-in-Err g c = refusal_tells (λ x y. g.S.PartialEq.eq x y) (rules_for (λ s z. g.S.Scheme.pick s z) (λ h. g.H.FlowHash.plain h) c.args.life.asked.setup c.args.life.asked.catalogue) c.args.life.asked c.args.life.start c.in-Err.fault c.in-Err.ensures.fault
