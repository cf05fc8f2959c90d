use Rattle.std.proofs.Common.{ℕ, List, refl, sym, ap, ◌∙◌, subst}
use Rattle.std.specs.Global.{Vec}
use Rattle.cluster_node.specs.declared.outcomes.Outcome.{Outcome}
use Rattle.thread_records.specs.declared.nodes.NodeRecord.{NodeRecord}
use Rattle.thread_records.specs.Lean.{send_of, sends_told, SameLists}
use Rattle.thread_records.proofs.Leans.{lists_told}
use Rattle.thread_records.proofs.lean.LeanRecord.open.Goals as goal

pub returns : goal.returns
returns c =
    let os : List Outcome = c.self.inside.outcomes.items in
    let r : NodeRecord = record { events = c.self.inside.events; outcomes = c.in_ok-outcomes.outcomes; sent = c.in_ok-sent.sent } in
    subst (λ (l : NodeRecord). SameLists r l) c.self.view_is (record {
      events = refl;
      outcomes = c.in_ok-outcomes.ensures;
      sent = c.in_ok-sent.ensures
          ∙ ap (λ (vs : List (Vec ℕ)). sends_told os vs) c.as_slice.ensures.value
          ∙ sym (lists_told (λ n. send_of os n) c.self.inside.sent.items);
    })
