use Rattle.std.proofs.Common.{◌≡◌, Some, false, sym, ap, ◌∙◌, arith}
use Rattle.std.specs.Prelude.{◌==◌}
use Rattle.std.proofs.lemmas.Bool.{eq-eqb, ne_eqb}
use Rattle.cluster_node.specs.declared.packets.Packet.{Packet}
use Rattle.cluster_node.specs.declared.events.Event.TheVariants.{Arrive}
use Rattle.cluster_node.specs.declared.outcomes.Outcome.TheVariants.{Dropped, Refused}
use Rattle.cluster_node.specs.declared.outcomes.Reason.TheVariants.{NoPacket}
use Rattle.cluster_node.specs.declared.outcomes.Cause.TheVariants.{NoVersion}
use Rattle.thread_records.specs.Journals.{JournalView, with_event, no_marks}
use Rattle.thread_records.proofs.Drives.{drives_ok, drives_no_packet, drives_bad, drives_no_version, drives_steered}
use Rattle.thread_records.proofs.journal.Journal.write_arrival.Goals as goal

pub returns-in-None-clause-drives : goal.returns-in-None-clause-drives
returns-in-None-clause-drives g c = λ rules same d.
    drives_ok c.write_unsteered.result rules c.args.packets.now c.write_unsteered.new.self (with_event c.args.self.now (Arrive c.args.self.now.node c.args.packet no_marks) (Refused NoPacket)) c.write_unsteered.ensures.after
    (drives_no_packet rules c.args.packets.now c.args.self.now d c.args.packet (sym c.packet_at.ensures ∙ c.in-None.is))

pub returns-in-Some-Bad-clause-drives : goal.returns-in-Some-Bad-clause-drives
returns-in-Some-Bad-clause-drives g c = λ rules same d.
    drives_ok c.write_unsteered-in-Some-Bad.result rules c.args.packets.now c.write_unsteered-in-Some-Bad.new.self (with_event c.args.self.now (Arrive c.args.self.now.node c.args.packet no_marks) (Dropped c.args.packet c.in-Some-Bad.cause)) c.write_unsteered-in-Some-Bad.ensures.after
    (drives_bad rules c.args.packets.now c.args.self.now d c.args.packet c.in-Some-Bad.cause (sym c.packet_at.ensures ∙ c.in-Some-Bad.is ∙ ap (λ (p : Packet). Some p) c.in-Some-Bad.field-0-is))

pub returns-then-self-eq0-clause-drives : goal.returns-then-self-eq0-clause-drives
returns-then-self-eq0-clause-drives g c = λ rules same d.
    let z : c.args.self.now.newest ≡ 0 = omega (arith, c.if-self-eq0.true, ap (λ (v : JournalView). v.newest) c.self.view_is) in
    drives_ok c.write_unsteered-then-self-eq0.result rules c.args.packets.now c.write_unsteered-then-self-eq0.new.self (with_event c.args.self.now (Arrive c.args.self.now.node c.args.packet no_marks) (Dropped c.args.packet NoVersion)) c.write_unsteered-then-self-eq0.ensures.after
    (drives_no_version rules c.args.packets.now c.args.self.now d c.args.packet c.in-Some-Good.flow c.in-Some-Good.field-0-1 c.in-Some-Good.at (sym c.packet_at.ensures ∙ c.in-Some-Good.is ∙ ap (λ (p : Packet). Some p) c.in-Some-Good.field-0-is) (eq-eqb c.args.self.now.newest 0 z))

pub returns-else-self-eq0-clause-drives : goal.returns-else-self-eq0-clause-drives
returns-else-self-eq0-clause-drives g c = λ rules same d.
    let some : (c.args.self.now.newest == 0) ≡ false = ne_eqb c.args.self.now.newest 0 (λ e. absurd (omega (arith, c.if-self-eq0.false, ap (λ (v : JournalView). v.newest) c.self.view_is))) in
    drives_steered c.write_steered.result rules c.args.packets.now c.args.self.now c.write_steered.new.self (g.H.FlowHash.plain c.args.hash.now) c.args.packet c.in-Some-Good.flow c.in-Some-Good.field-0-1 c.in-Some-Good.at same (sym c.packet_at.ensures ∙ c.in-Some-Good.is ∙ ap (λ (p : Packet). Some p) c.in-Some-Good.field-0-is) some d c.write_steered.ensures.after
