use Rattle.std.proofs.Common.{Option, subst}
use Rattle.cluster_node.specs.declared.packets.Packet.{Packet}
use Rattle.cluster_core.specs.Setups.{rules_for}
use Rattle.cluster_core.specs.Runs.{RunGoes}
use Rattle.cluster_core.proofs.running.Run.step.Goals as goal
use Rattle.std.proofs.Common.{rules}

pub returns-in-Ok-clause-verdict : goal.returns-in-Ok-clause-verdict
returns-in-Ok-clause-verdict g c = λ past few st.
    subst (λ (p : Option Packet). RunGoes (λ s z. g.S.Scheme.pick s z) (rules_for (λ s z. g.S.Scheme.pick s z) (λ h. g.H.FlowHash.plain h) c.args.setup.now c.args.catalogue.now) past c.args.event.now p c.in-Ok.outcome c.advance.new.self) c.copied.ensures (c.in-Ok.ensures.verdict past few st)

pub returns-then-self-clause-verdict : goal.returns-then-self-clause-verdict
returns-then-self-clause-verdict g c = search rules

pub returns-then-self-clause-refused : goal.returns-then-self-clause-refused
returns-then-self-clause-refused g c = search rules

pub returns-then-self-clause-failed : goal.returns-then-self-clause-failed
returns-then-self-clause-failed g c = search rules

pub returns-in-Ok-clause-refused : goal.returns-in-Ok-clause-refused
returns-in-Ok-clause-refused g c = search rules

pub returns-in-Ok-clause-failed : goal.returns-in-Ok-clause-failed
returns-in-Ok-clause-failed g c = search rules

pub returns-in-Err-clause-verdict : goal.returns-in-Err-clause-verdict
returns-in-Err-clause-verdict g c = search rules

pub returns-in-Err-clause-refused : goal.returns-in-Err-clause-refused
returns-in-Err-clause-refused g c = search rules

pub returns-in-Err-clause-failed : goal.returns-in-Err-clause-failed
returns-in-Err-clause-failed g c = search rules
