use Rattle.std.proofs.Common.{true, refl, sym, subst}
use Rattle.thread_records.specs.Ends.{all_handled}
use Rattle.thread_roles.proofs.Counting.{counts_served}
use Rattle.cluster_node.specs.Rules.{Rules}
use Rattle.cluster_core.specs.Setups.{rules_for}
use Rattle.thread_records.specs.Journals.{JournalView}
use Rattle.thread_records.specs.Paced.{AreUnmarked}
use Rattle.thread_records.proofs.Paced.{unmarked_all_serves}
use Rattle.node_life.proofs.Judging.{judged_fault}
use Rattle.node_life.proofs.ends.end.Goals as goal

pub returns-in-Ok-clause-unmarked : goal.returns-in-Ok-clause-unmarked
returns-in-Ok-clause-unmarked g c = λ had. subst (λ (j : JournalView). AreUnmarked j.events) (sym c.in-Ok.ensures.after) (unmarked_all_serves 0 (all_handled c.args.workers.items) c.args.journal.now had)

pub returns-in-Ok-clause-ended : goal.returns-in-Ok-clause-ended
returns-in-Ok-clause-ended g c = λ packets d.
    let rules : Rules = rules_for (λ s z. g.S.Scheme.pick s z) (λ h. g.H.FlowHash.plain h) c.args.setup.now c.args.catalogue.now in
    let all = c.in_ok-compare.ensures.of in
    (c.in-Ok.ensures.tells rules packets d all, c.in-Ok.ensures.drained rules packets d all refl)

pub returns-in-Ok-clause-counts : goal.returns-in-Ok-clause-counts
returns-in-Ok-clause-counts g c = λ lost shares had. counts_served c.end.new.self c.args.journal.now (all_handled c.args.workers.items) lost shares c.in-Ok.ensures.after had

pub returns-in-Err-clause-judged : goal.returns-in-Err-clause-judged
returns-in-Err-clause-judged g c = judged_fault (λ x y. g.S.PartialEq.eq x y) c.args.setup.now c.args.catalogue.now true c.args.journal.now c.args.workers.items c.in-Err.fault c.fault_of.result c.fault_of.ensures c.in_ok-compare.ensures.own c.in-Err.ensures.judged
