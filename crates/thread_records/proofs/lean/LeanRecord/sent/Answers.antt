use Rattle.std.proofs.Common.{◌≡◌, List, map, sym, ap, ◌∙◌, subst}
use Rattle.cluster_node.specs.declared.outcomes.Outcome.{Outcome}
use Rattle.thread_records.specs.declared.nodes.NodeRecord.{NodeRecord}
use Rattle.thread_records.specs.Lean.{send_of, sends_told}
use Rattle.thread_records.proofs.Leans.{lists_told}
use Rattle.thread_records.proofs.lean.LeanRecord.sent.Goals as goal

pub returns : goal.returns
returns c =
    let os : List Outcome = c.self.inside.outcomes.items in
    subst (λ (l : NodeRecord). sends_told l.outcomes.items c.as_slice.result.now ≡ map (λ v. v.items) l.sent.items) c.self.view_is
    (ap (λ vs. sends_told os vs) c.as_slice.ensures.value ∙ sym (lists_told (λ n. send_of os n) c.self.inside.sent.items))
