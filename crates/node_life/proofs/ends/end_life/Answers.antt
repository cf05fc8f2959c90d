use Rattle.thread_records.specs.Ends.{all_handled}
use Rattle.thread_roles.proofs.Counting.{counts_ended}
use Rattle.cluster_node.specs.Rules.{Rules}
use Rattle.cluster_core.specs.Setups.{rules_for}
use Rattle.thread_roles.proofs.Goes.{goes_ended}
use Rattle.std.proofs.Common.{sym, subst}
use Rattle.thread_records.specs.Journals.{JournalView}
use Rattle.thread_records.specs.Paced.{AreUnmarked}
use Rattle.thread_records.proofs.Paced.{unmarked_ended}
use Rattle.node_life.proofs.ends.end_life.Goals as goal

pub returns-in-Ok-clause-unmarked : goal.returns-in-Ok-clause-unmarked
returns-in-Ok-clause-unmarked g c = λ had. subst (λ (j : JournalView). AreUnmarked j.events) (sym c.in-Ok.ensures.after) (unmarked_ended (all_handled c.args.workers.items) c.args.journal.now had)

pub returns-in-Ok-clause-going : goal.returns-in-Ok-clause-going
returns-in-Ok-clause-going g c = λ packets cs n places going.
    let rules : Rules = rules_for (λ s z. g.S.Scheme.pick s z) (λ h. g.H.FlowHash.plain h) c.args.setup.now c.args.catalogue.now in
    goes_ended rules packets cs n places c.args.drained c.in-Ok.left c.args.journal.now c.end_life.new.self going (c.in-Ok.ensures.drives rules packets going.drives c.in_ok-compare.ensures.of) c.in-Ok.ensures.command c.in-Ok.ensures.lost.0 c.in-Ok.ensures.lost.1 c.in-Ok.ensures.kept.0 c.in-Ok.ensures.kept.1

pub returns-in-Ok-clause-counts : goal.returns-in-Ok-clause-counts
returns-in-Ok-clause-counts g c = λ lost shares had. counts_ended c.end_life.new.self c.args.journal.now (all_handled c.args.workers.items) c.in-Ok.left lost shares c.in-Ok.ensures.after c.in-Ok.ensures.left had
