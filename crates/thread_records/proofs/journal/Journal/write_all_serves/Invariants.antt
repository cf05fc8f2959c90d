use Rattle.std.proofs.Common.{◌≡◌, ◌%◌, ◌^◌, ◌++◌, List, length, take}
use Rattle.std.specs.Prelude.{All}
use Rattle.cluster_node.specs.Rules.{Rules}
use Rattle.thread_records.specs.Works.{WorkView, IsOf}
use Rattle.thread_records.specs.Journals.{AllFit}
use Rattle.thread_records.specs.Ends.{all_handled, with_all_serves, left_over}
use Rattle.thread_records.proofs.journal.Journal.write_all_serves.Given as goal

abbrev pub invariant-loop-worker : goal.invariant-loop-worker
invariant-loop-worker g l = (done : List (WorkView g.row.S.Denot)) × (done ++ l.worker-iterator.rest.items ≡ l.fn.workers.items)
    × (l.number ≡ length done)
    × (l.self ≡ with_all_serves 0 (all_handled done) l.fn.self)
    × (l.left ≡ left_over (take (length done) l.fn.self.placed) (all_handled done) % 2 ^ 64)
    × ((rules : Rules) → All (λ w. IsOf (λ s z. g.S.Scheme.pick s z) rules w) l.fn.workers.items → All (λ hs. AllFit rules hs) (all_handled done))
