use Rattle.cluster_core.specs.Setups.{rules_for}
use Rattle.cluster_core.proofs.Nodes.{KeptSoFar}
use Rattle.cluster_core.proofs.replaying.replay_all.Given as goal

-- the outcomes so far, and those of what is left after some record that the run stands for, are those of all
abbrev pub invariant-loop-event : goal.invariant-loop-event
invariant-loop-event g l = KeptSoFar (λ s z. g.S.Scheme.pick s z) (rules_for (λ s z. g.S.Scheme.pick s z) (λ h. g.H.FlowHash.plain h) l.setup l.catalogue) l.packets l.events l.event-index l.outcomes.items l.run
