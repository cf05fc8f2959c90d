use Rattle.std.proofs.Common.{◌≡◌, List, length}
use Rattle.cluster_node.specs.declared.outcomes.Outcome.{Outcome}
use Rattle.cluster_core.specs.Setups.{rules_for}
use Rattle.cluster_core.proofs.Nodes.{KeptSoFar}
use Rattle.thread_records.proofs.Audits.{AgreesSoFar}
use Rattle.shared_versions.proofs.auditor.agrees_over.Given as goal

-- what the replay told so far, which nothing keeps
abbrev pub invariant-loop-at : goal.invariant-loop-at
invariant-loop-at g l = (told : List Outcome) × (length told ≡ l.at)
    × KeptSoFar (λ s z. g.S.Scheme.pick s z) (rules_for (λ s z. g.S.Scheme.pick s z) (λ h. g.H.FlowHash.plain h) l.setup l.catalogue) l.packets l.events l.at told l.replay
    × AgreesSoFar l.agree (length l.events) (g.N.Recorded.outcomes_of l.node) l.at told
    × (l.replay.versions ≡ l.versions)
