use Rattle.std.proofs.Common.{refl, sym}
use Rattle.cluster_node.specs.Rules.{Rules}
use Rattle.cluster_core.specs.Setups.{rules_for}
use Rattle.thread_records.specs.declared.command.Command.TheVariants.{Publish}
use Rattle.thread_records.proofs.Losses.{keeps_on}
use Rattle.node_rehearsal.proofs.Goes.{goes_more}
use Rattle.node_rehearsal.proofs.publish.Goals as goal

pub returns-in-Ok-prepare-clause-going : goal.returns-in-Ok-prepare-clause-going
returns-in-Ok-prepare-clause-going g c = λ packets cs going.
    let rules : Rules = rules_for (λ s z. g.S.Scheme.pick s z) (λ h. g.H.FlowHash.plain h) c.args.setup.now c.args.catalogue.now in
    goes_more rules packets cs (Publish c.args.number) c.args.journal.now c.install.new.self going (c.in-Ok-Installed.ensures.drives rules packets (sym c.knows.ensures) going.drives) c.in-Ok-Installed.ensures.command (keeps_on cs (Publish c.args.number) c.args.journal.now.outcomes c.install.new.self.outcomes refl c.in-Ok-Installed.ensures.lost going.kept)

pub returns-in-Ok-clause-going : goal.returns-in-Ok-clause-going
returns-in-Ok-clause-going g c = λ packets cs going.
    let rules : Rules = rules_for (λ s z. g.S.Scheme.pick s z) (λ h. g.H.FlowHash.plain h) c.args.setup.now c.args.catalogue.now in
    goes_more rules packets cs (Publish c.args.number) c.args.journal.now c.install.new.self going (c.in-Ok.ensures.drives rules packets (sym c.knows.ensures) going.drives) c.in-Ok.ensures.command (keeps_on cs (Publish c.args.number) c.args.journal.now.outcomes c.install.new.self.outcomes refl c.in-Ok.ensures.lost going.kept)
