use Rattle.std.proofs.Common.{refl, sym, subst}
use Rattle.thread_records.specs.Journals.{JournalView}
use Rattle.thread_roles.specs.Counts.{Counts}
use Rattle.thread_roles.proofs.Counting.{counts_install}
use Rattle.thread_records.proofs.Losses.{keeps_on}
use Rattle.thread_roles.proofs.Goes.{goes_more}
use Rattle.thread_records.specs.declared.command.Command.TheVariants.{Publish}
use Rattle.cluster_node.specs.Rules.{Rules}
use Rattle.cluster_core.specs.Setups.{rules_for}
use Rattle.thread_records.specs.Paced.{AreUnmarked}
use Rattle.thread_records.proofs.Paced.{unmarked_install}
use Rattle.thread_roles.proofs.driving.publish.Goals as goal

pub returns-in-Ok-show_next-clause-unmarked : goal.returns-in-Ok-show_next-clause-unmarked
returns-in-Ok-show_next-clause-unmarked g c = λ had. subst (λ (j : JournalView). AreUnmarked j.events) (sym c.in-Ok-Installed.ensures.after) (unmarked_install c.knows.result c.args.number c.args.journal.now had)

pub returns-in-Ok-clause-unmarked : goal.returns-in-Ok-clause-unmarked
returns-in-Ok-clause-unmarked g c = λ had. subst (λ (j : JournalView). AreUnmarked j.events) (sym c.in-Ok.ensures.after) (unmarked_install c.knows.result c.args.number c.args.journal.now had)

pub returns-in-Ok-show_next-clause-counts : goal.returns-in-Ok-show_next-clause-counts
returns-in-Ok-show_next-clause-counts g c = λ lost shares had. subst (λ (j : JournalView). Counts lost shares j.outcomes) (sym c.in-Ok-Installed.ensures.after) (counts_install c.knows.result c.args.number c.args.journal.now lost shares had)

pub returns-in-Ok-clause-counts : goal.returns-in-Ok-clause-counts
returns-in-Ok-clause-counts g c = λ lost shares had. subst (λ (j : JournalView). Counts lost shares j.outcomes) (sym c.in-Ok.ensures.after) (counts_install c.knows.result c.args.number c.args.journal.now lost shares had)

pub returns-in-Ok-show_next-clause-going : goal.returns-in-Ok-show_next-clause-going
returns-in-Ok-show_next-clause-going g c = λ packets cs n places going.
    let rules : Rules = rules_for (λ s z. g.S.Scheme.pick s z) (λ h. g.H.FlowHash.plain h) c.args.plan.assignment.setup.now c.args.plan.assignment.catalogue.now in
    goes_more rules packets cs n places (Publish c.args.number) c.args.journal.now c.install.new.self going (c.in-Ok-Installed.ensures.drives rules packets (sym c.knows.ensures) going.drives) c.in-Ok-Installed.ensures.command (keeps_on cs (Publish c.args.number) c.args.journal.now.outcomes c.install.new.self.outcomes refl c.in-Ok-Installed.ensures.lost going.kept) c.in-Ok-Installed.ensures.kept.0 c.in-Ok-Installed.ensures.kept.1

pub returns-in-Ok-clause-going : goal.returns-in-Ok-clause-going
returns-in-Ok-clause-going g c = λ packets cs n places going.
    let rules : Rules = rules_for (λ s z. g.S.Scheme.pick s z) (λ h. g.H.FlowHash.plain h) c.args.plan.assignment.setup.now c.args.plan.assignment.catalogue.now in
    goes_more rules packets cs n places (Publish c.args.number) c.args.journal.now c.install.new.self going (c.in-Ok.ensures.drives rules packets (sym c.knows.ensures) going.drives) c.in-Ok.ensures.command (keeps_on cs (Publish c.args.number) c.args.journal.now.outcomes c.install.new.self.outcomes refl c.in-Ok.ensures.lost going.kept) c.in-Ok.ensures.kept.0 c.in-Ok.ensures.kept.1
