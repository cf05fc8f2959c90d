use Rattle.std.proofs.Common.{sym, subst, []}
use Rattle.cluster_core.specs.Setups.{rules_for}
use Rattle.cluster_core.specs.RunView.{RunView}
use Rattle.cluster_core.specs.Runs.{RunStands}
use Rattle.cluster_core.proofs.Nodes.{run_none, if_ok_map}
use Rattle.cluster_core.proofs.running.Run.make.Goals as goal

pub returns-clause-stands : goal.returns-clause-stands
returns-clause-stands g c = λ pools. if_ok_map c.make_fresh.result (λ r h. subst (λ (z : RunView g.row.S.Denot). RunStands (λ s z. g.S.Scheme.pick s z) (rules_for (λ s z. g.S.Scheme.pick s z) (λ h. g.H.FlowHash.plain h) c.args.setup.now pools) [] z) (sym h) (run_none (λ s z. g.S.Scheme.pick s z) (rules_for (λ s z. g.S.Scheme.pick s z) (λ h. g.H.FlowHash.plain h) c.args.setup.now pools) c.make_fresh.ensures.workers)) c.make_fresh.ensures.fresh
