use Rattle.std.proofs.Common.{◌≤◌, ◌+◌, ℕ, List, [], length, take, sym, subst, ap, ◌∙◌, arith}
use Rattle.cluster_node.specs.Rules.{Rules}
use Rattle.cluster_core.specs.Setups.{rules_for}
use Rattle.thread_records.specs.declared.command.Command.TheVariants.{Publish, Offer}
use Rattle.thread_records.specs.Losses.{drained_lives, losses, KeepDrained}
use Rattle.thread_records.specs.Histories.{commands_of}
use Rattle.thread_records.specs.Journals.{JournalView}
use Rattle.std.specs.Prelude.{Ok}
use Rattle.thread_records.proofs.Leans.{same_is_run}
use Rattle.node_rehearsal.specs.PrivateGoing.{Going}
use Rattle.node_rehearsal.proofs.Goes.{is_ending, obeyed_more, obeyed_all, same_run}
use Rattle.node_rehearsal.proofs.rehearse.Goals as goal
use Rattle.node_rehearsal.proofs.rehearse.Goals.{in-Publish+in_ok-publish-in-Publish, in-Offer+in_ok-offer-in-Offer, in-Restart+in_ok-list-in-Restart+in_ok-keep-in-Restart+in_ok-queue-in-Restart}

pub loop-command-init : goal.loop-command-init
loop-command-init g c =
    let rules : Rules = rules_for (λ s z. g.S.Scheme.pick s z) (λ h. g.H.FlowHash.plain h) c.args.setup.now c.args.catalogue.now in
    let fresh = c.in_ok-journal.ensures.fresh in
    record {
      going = record { drives = c.in_ok-journal.ensures.drives rules c.args.packets.now c.requires c.workers-count.ensures.workers; obeyed = ap (λ (j : JournalView). commands_of j.events) fresh; kept = subst (λ (j : JournalView). KeepDrained [] (losses j.outcomes)) (sym fresh) tt };
      node = ap (λ (j : JournalView). j.node) fresh;
      ring = ap (λ (j : JournalView). j.ring) fresh;
    }

pub loop-command-preserved : goal.loop-command-preserved
loop-command-preserved g c =
    let rules : Rules = rules_for (λ s z. g.S.Scheme.pick s z) (λ h. g.H.FlowHash.plain h) c.args.setup.now c.args.catalogue.now in
    let i : ℕ = c.loop-command.command-index in
    let had = c.loop-command.invariant in
    elim c.match-command.branch [
      | in-Publish+in_ok-publish-in-Publish w ↦ record {
        going = subst (λ (z : JournalView). Going rules c.args.packets.now (take (i + 1) c.args.commands.now) z) (sym w.journal-is) (obeyed_more rules c.args.packets.now c.args.commands.now i (Publish w.in-Publish.number) _ w.publish.new.journal c.loop-command-test.true w.in-Publish.is (w.in_ok-publish-in-Publish.ensures.going c.args.packets.now (take i c.args.commands.now) had.going));
        node = ap (λ (j : JournalView). j.node) w.journal-is ∙ w.in_ok-publish-in-Publish.ensures.kept.0 ∙ had.node;
        ring = ap (λ (j : JournalView). j.ring) w.journal-is ∙ w.in_ok-publish-in-Publish.ensures.kept.1 ∙ had.ring;
      }
      | in-Offer+in_ok-offer-in-Offer w ↦ record {
        going = subst (λ (z : JournalView). Going rules c.args.packets.now (take (i + 1) c.args.commands.now) z) (sym w.journal-is) (obeyed_more rules c.args.packets.now c.args.commands.now i (Offer w.in-Offer.packet) _ w.offer.new.journal c.loop-command-test.true w.in-Offer.is (w.in_ok-offer-in-Offer.ensures.going (take i c.args.commands.now) had.going));
        node = ap (λ (j : JournalView). j.node) w.journal-is ∙ w.in_ok-offer-in-Offer.ensures.kept.0 ∙ had.node;
        ring = ap (λ (j : JournalView). j.ring) w.journal-is ∙ w.in_ok-offer-in-Offer.ensures.kept.1 ∙ had.ring;
      }
      | in-Restart+in_ok-list-in-Restart+in_ok-keep-in-Restart+in_ok-queue-in-Restart w ↦ record {
        going = subst (λ (z : JournalView). Going rules c.args.packets.now (take (i + 1) c.args.commands.now) z) (sym w.journal-is) (obeyed_more rules c.args.packets.now c.args.commands.now i _ _ w.restart.new.journal c.loop-command-test.true (is_ending _ _ w.in-Restart.is w.is_drained-drained.ensures) (w.in_ok-list-in-Restart.ensures.going c.args.packets.now (take i c.args.commands.now) had.going));
        node = ap (λ (j : JournalView). j.node) w.journal-is ∙ w.in_ok-list-in-Restart.ensures.kept.0 ∙ had.node;
        ring = ap (λ (j : JournalView). j.ring) w.journal-is ∙ w.in_ok-list-in-Restart.ensures.kept.1 ∙ had.ring;
      }
    ]

pub returns-in-Ok : goal.returns-in-Ok
returns-in-Ok g c =
    let rules : Rules = rules_for (λ s z. g.S.Scheme.pick s z) (λ h. g.H.FlowHash.plain h) c.args.setup.now c.args.catalogue.now in
    let had = c.loop-command.invariant in
    let ended = c.in_ok-list.ensures.ended c.args.packets.now had.going.drives in
    let served = c.in_ok-list.ensures.served in
    let all : length c.args.commands.now ≤ c.loop-command.command-index = omega (arith, c.loop-command-test.false) in
    let obeyed = obeyed_all rules c.args.packets.now c.args.commands.now c.loop-command.command-index c.loop-command.journal all had.going in
    same_run {E = Unit {0}} rules c.args.packets.now c.end.new.journal.node c.args.node c.end.new.journal.ring c.args.ring c.args.commands.now (Ok c.in-Ok.record)
    (served.node ∙ had.node) (served.ring ∙ had.ring)
    (same_is_run rules c.args.packets.now c.end.new.journal.node c.end.new.journal.ring c.args.commands.now c.in-Ok.record c.in_ok-finish.field-0 c.in-Ok.ensures (c.in_ok-finish.ensures.run rules c.args.packets.now c.args.commands.now ended.0 ended.1 (served.commands ∙ obeyed.obeyed) (subst (λ (ls : List ℕ). KeepDrained (drained_lives c.args.commands.now) ls) (sym served.lost) obeyed.kept)))
