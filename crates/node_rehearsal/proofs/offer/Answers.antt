use Rattle.std.proofs.Common.{refl, sym, ap}
use Rattle.cluster_node.specs.Rules.{Rules}
use Rattle.cluster_core.specs.Setups.{rules_for}
use Rattle.thread_records.specs.declared.command.Command.TheVariants.{Offer}
use Rattle.thread_records.proofs.Losses.{keeps_on}
use Rattle.node_rehearsal.proofs.Goes.{goes_more}
use Rattle.node_rehearsal.proofs.offer.Goals as goal

pub returns-in-Ok-clause-going : goal.returns-in-Ok-clause-going
returns-in-Ok-clause-going g c = λ cs going.
    let rules : Rules = rules_for (λ s z. g.S.Scheme.pick s z) (λ h. g.H.FlowHash.plain h) c.args.setup.now c.args.catalogue.now in
    goes_more rules c.args.packets.now cs (Offer c.args.packet) c.args.journal.now c.arrive.new.self going (c.in-Ok.ensures.drives rules (ap (λ h. g.H.FlowHash.plain h) (sym c.hash.ensures)) going.drives) c.in-Ok.ensures.command (keeps_on cs (Offer c.args.packet) c.args.journal.now.outcomes c.arrive.new.self.outcomes refl c.in-Ok.ensures.lost going.kept)
