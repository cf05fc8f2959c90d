use Rattle.std.proofs.Common.{◌+◌, ℕ, Some, take, ap, sym, subst, ◌∙◌}
use Rattle.std.specs.Arc.{arc_value}
use Rattle.cluster_node.specs.Rules.{Rules}
use Rattle.cluster_core.specs.Setups.{rules_for}
use Rattle.thread_records.specs.declared.command.Command.TheVariants.{Publish, Offer}
use Rattle.thread_records.specs.Journals.{JournalView}
use Rattle.thread_records.specs.Paced.{AreUnmarked}
use Rattle.thread_roles.specs.Counts.{Counts}
use Rattle.thread_roles.specs.Going.{Going}
use Rattle.thread_roles.specs.Shown.{number_of, last_published}
use Rattle.thread_roles.proofs.Goes.{obeyed_more}
use Rattle.thread_roles.proofs.driving.drive.Goals as goal
use Rattle.thread_roles.proofs.driving.drive.Goals.{in-Publish+in_ok-publish-in-Publish, in-Offer+in_ok-offer-in-Offer}

pub loop-at-preserved : goal.loop-at-preserved
loop-at-preserved g c =
    let rules : Rules = rules_for (λ s z. g.S.Scheme.pick s z) (λ h. g.H.FlowHash.plain h) c.args.plan.assignment.setup.now c.args.plan.assignment.catalogue.now in
    let i : ℕ = c.loop-at.at in
    let had = c.loop-at.invariant in
    elim c.match-command_at.branch [
      | in-Publish+in_ok-publish-in-Publish w ↦ record {
        going = subst (λ (z : JournalView). Going rules c.args.plan.assignment.packets.now (take (i + 1) c.args.plan.assignment.commands.now) c.args.plan.assignment.node c.args.plan.assignment.ring z) (sym w.journal-is) (obeyed_more rules c.args.plan.assignment.packets.now c.args.plan.assignment.commands.now c.args.plan.assignment.node c.args.plan.assignment.ring i (Publish w.in-Publish.number) w.publish.new.journal c.loop-at-test.true (c.command_at.ensures ∙ ap (λ x. Some x) w.in-Publish.is) (w.in_ok-publish-in-Publish.ensures.going c.args.plan.assignment.packets.now (take i c.args.plan.assignment.commands.now) c.args.plan.assignment.node c.args.plan.assignment.ring had.going));
        parts = ap (λ t. t.shares.parts) w.tally-is ∙ had.parts;
        counts = λ read. subst (λ t. Counts t.lost t.shares c.match-command_at.journal.outcomes) (sym w.tally-is) (subst (λ (z : JournalView). Counts c.loop-at.tally.lost c.loop-at.tally.shares z.outcomes) (sym w.journal-is) (w.in_ok-publish-in-Publish.ensures.counts c.loop-at.tally.lost c.loop-at.tally.shares (had.counts read)));
        unmarked = λ paced before. subst (λ (z : JournalView). AreUnmarked z.events) (sym w.journal-is) (w.in_ok-publish-in-Publish.ensures.unmarked (had.unmarked paced before));
        prepared = ap (λ o. number_of arc_value o) w.newest-is ∙ w.in_ok-publish-in-Publish.ensures.newest had.prepared ∙ ap (λ (z : JournalView). z.newest) (sym w.journal-is);
        published = λ level. ap (λ d. last_published d.seat) w.desk-is ∙ w.in_ok-publish-in-Publish.ensures.published (had.published level) ∙ ap (λ (z : JournalView). z.newest) (sym w.journal-is);
      }
      | in-Offer+in_ok-offer-in-Offer w ↦ record {
        going = subst (λ (z : JournalView). Going rules c.args.plan.assignment.packets.now (take (i + 1) c.args.plan.assignment.commands.now) c.args.plan.assignment.node c.args.plan.assignment.ring z) (sym w.journal-is) (obeyed_more rules c.args.plan.assignment.packets.now c.args.plan.assignment.commands.now c.args.plan.assignment.node c.args.plan.assignment.ring i (Offer w.in-Offer.packet) w.offer.new.journal c.loop-at-test.true (c.command_at.ensures ∙ ap (λ x. Some x) w.in-Offer.is) (w.in_ok-offer-in-Offer.ensures.going (take i c.args.plan.assignment.commands.now) c.args.plan.assignment.node c.args.plan.assignment.ring had.going));
        parts = ap (λ t. t.shares.parts) w.tally-is ∙ w.offer.ensures.parts ∙ had.parts;
        counts = λ read. subst (λ t. Counts t.lost t.shares c.match-command_at.journal.outcomes) (sym w.tally-is) (subst (λ (z : JournalView). Counts w.offer.new.tally.lost w.offer.new.tally.shares z.outcomes) (sym w.journal-is) (w.in_ok-offer-in-Offer.ensures.counts read (had.counts read)));
        unmarked = λ paced before. subst (λ (z : JournalView). AreUnmarked z.events) (sym w.journal-is) (w.in_ok-offer-in-Offer.ensures.unmarked paced (had.unmarked paced before));
        prepared = ap (λ o. number_of arc_value o) w.newest-is ∙ had.prepared ∙ sym w.in_ok-offer-in-Offer.ensures.newest ∙ ap (λ (z : JournalView). z.newest) (sym w.journal-is);
        published = λ level. ap (λ d. last_published d.seat) w.desk-is ∙ had.published level ∙ sym w.in_ok-offer-in-Offer.ensures.newest ∙ ap (λ (z : JournalView). z.newest) (sym w.journal-is);
      }
    ]
