use Rattle.std.proofs.Common.{◌++◌, ◌∷◌, [], List, sym, subst}
use Rattle.thread_records.specs.declared.nodes.NodeRecord.{NodeRecord}
use Rattle.thread_records.specs.Lean.{AreSameLists}
use Rattle.thread_records.proofs.Leans.{same_more}
use Rattle.thread_records.proofs.lean.open_all.Goals as goal

pub loop-node-preserved : goal.loop-node-preserved
loop-node-preserved c =
    let done : List NodeRecord = c.loop-node.yielded ++ c.in-Some.node ∷ [] in
    subst (λ (rs : List NodeRecord). AreSameLists rs done) (sym {A = List NodeRecord} c.in_ok-push.ensures.items)
    (same_more c.loop-node.opened.items c.loop-node.yielded c.in_ok-open.field-0 c.in-Some.node c.loop-node.invariant c.in_ok-open.ensures)
