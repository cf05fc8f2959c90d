use Rattle.std.proofs.Common.{sym, subst}
use Rattle.selection.specs.Picks.{slot_of_flow}
use Rattle.cluster_node.specs.Rules.{Rules}
use Rattle.cluster_core.specs.Setups.{rules_for}
use Rattle.cluster_core.specs.Explain.{send_of, Explains}
use Rattle.cluster_core.specs.declared.explaining.Verdict.{Verdict}
use Rattle.cluster_core.proofs.Splits.{explains}
use Rattle.cluster_core.proofs.explaining.explain.Goals as goal

pub returns-clause-why : goal.returns-clause-why
returns-clause-why g c = λ steady.
    let rules : Rules = rules_for (λ s z. g.S.Scheme.pick s z) (λ h. g.H.FlowHash.plain h) c.args.setup.now c.args.catalogue.now in
    subst (λ (v : Verdict). Explains rules (λ x. slot_of_flow (g.H.FlowHash.plain c.args.setup.now.hash) c.args.setup.now.size x) (send_of c.args.one.now) v) (sym c.compare.ensures)
    (explains rules (λ x. slot_of_flow (g.H.FlowHash.plain c.args.setup.now.hash) c.args.setup.now.size x) (send_of c.args.one.now) (send_of c.args.other.now) (c.requires.one steady) (c.requires.other steady))
