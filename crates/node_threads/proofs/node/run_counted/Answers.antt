use Rattle.std.proofs.Common.{◌≡◌, ◌+◌, ℕ, Bool, List, false, take, sym, subst, ap, ◌∙◌, arith}
use Rattle.std.proofs.lemmas.Result.{IfOk-weaker, IfErr-weaker}
use Rattle.stats_book.specs.Counts.{Counted}
use Rattle.cluster_node.specs.Rules.{Rules}
use Rattle.cluster_node.specs.declared.events.Event.{Event}
use Rattle.cluster_node.specs.declared.outcomes.Outcome.{Outcome}
use Rattle.cluster_core.specs.Setups.{rules_for}
use Rattle.thread_records.specs.declared.nodes.NodeRecord.{NodeRecord}
use Rattle.thread_records.specs.Journals.{JournalView}
use Rattle.thread_records.specs.Paced.{AreUnmarked}
use Rattle.thread_records.specs.Runs.{IsRunOf}
use Rattle.thread_roles.specs.Counts.{Counts, counted}
use Rattle.thread_roles.specs.Assigned.{asked_in}
use Rattle.thread_roles.specs.Going.{Going, IsLived, IsLast, Asked}
use Rattle.thread_roles.specs.declared.fault.RunFault.TheVariants.{Memory, BookLost}
use Rattle.thread_roles.proofs.Goes.{same_run}
use Rattle.node_life.specs.Told.{LifeTells}
use Rattle.node_threads.specs.Told.{NodeTells}
use Rattle.node_threads.proofs.Telling.{err_exit, life_tells, run_tells, book_tells, memory_tells}
use Rattle.node_threads.proofs.node.run_counted.Goals as goal

pub loop-sent-init : goal.loop-sent-init
loop-sent-init g c = record {
  asked = c.in_ok-life.ensures.asked;
  within = omega (arith, c.in_ok-life.ensures.begins.0);
  parts = c.in_ok-life.ensures.begins.1;
}

pub new-life-requires : goal.new-life-requires
new-life-requires g c =
    let rules : Rules = rules_for (λ s z. g.S.Scheme.pick s z) (λ h. g.H.FlowHash.plain h) c.args.task.assignment.setup.now c.args.task.assignment.catalogue.now in
    let asked : Asked _ _ = asked_in c.args.task.assignment in
    let p = c.in_ok-lived.lived.progress in
    let lived : IsLived rules asked c.loop-sent.life.start c.loop-sent.life.parts p.at p.journal p.tally.lost p.tally.shares
    = subst (λ (a : Asked _ _). IsLived (rules_for (λ s z. g.S.Scheme.pick s z) (λ h. g.H.FlowHash.plain h) a.setup a.catalogue) a c.loop-sent.life.start c.loop-sent.life.parts p.at p.journal p.tally.lost p.tally.shares) c.loop-sent.invariant.asked c.in_ok-lived.ensures in
    let same = c.past_end.ensures.same in
    let parts : c.past_end.result.tally.shares.parts ≡ p.tally.shares.parts = ap (λ (s : Counted). s.parts) same.1 in
    record {
      begins = record {
        within = omega (arith, c.if-progress-assignment.false, c.past_end.ensures.at);
        going = subst (λ (n : ℕ). Going rules asked.packets (take n asked.commands) asked.node asked.ring c.past_end.result.journal) (sym c.past_end.ensures.at)
            (subst (λ (j : JournalView). Going rules asked.packets (take (p.at + 1) asked.commands) asked.node asked.ring j) (sym same.0) (lived.ended.next (omega (arith, c.if-progress-assignment.false))));
        some = omega (arith, parts, lived.parts_are, c.loop-sent.invariant.parts, c.args.task.parts);
        counts = λ read. subst (λ (j : JournalView). Counts c.past_end.result.tally.lost c.past_end.result.tally.shares j.outcomes) (sym same.0)
            (subst (λ (s : Counted). Counts c.past_end.result.tally.lost s p.journal.outcomes) (sym same.1)
            (subst (λ (b : Bool). Counts b p.tally.shares p.journal.outcomes) (sym same.2) (lived.counts read)));
        unmarked = λ paced. subst (λ (j : JournalView). AreUnmarked j.events) (sym same.0) (lived.unmarked paced);
      };
    }

pub returns-then-progress-assignment-clause-run : goal.returns-then-progress-assignment-clause-run
returns-then-progress-assignment-clause-run g c =
    let rules : Rules = rules_for (λ s z. g.S.Scheme.pick s z) (λ h. g.H.FlowHash.plain h) c.args.task.assignment.setup.now c.args.task.assignment.catalogue.now in
    let asked : Asked _ _ = asked_in c.args.task.assignment in
    let p = c.in_ok-lived.lived.progress in
    let lived : IsLived rules asked c.loop-sent.life.start c.loop-sent.life.parts p.at p.journal p.tally.lost p.tally.shares
    = subst (λ (a : Asked _ _). IsLived (rules_for (λ s z. g.S.Scheme.pick s z) (λ h. g.H.FlowHash.plain h) a.setup a.catalogue) a c.loop-sent.life.start c.loop-sent.life.parts p.at p.journal p.tally.lost p.tally.shares) c.loop-sent.invariant.asked c.in_ok-lived.ensures in
    let last : IsLast rules asked.packets asked.commands asked.node asked.ring p.journal = lived.ended.last (omega (arith, c.if-progress-assignment.true)) in
    let done : NodeRecord = c.in_ok-kept.kept in
    let is : IsRunOf rules asked.packets asked.node asked.ring asked.commands done
    = same_run rules asked.packets p.journal.node asked.node p.journal.ring asked.ring asked.commands done last.own last.ring (c.in_ok-kept.ensures.run rules asked.packets asked.commands last.tells last.drained last.obeyed last.kept) in
    IfOk-weaker c.unless_lost.result
    (λ r. (r.record ≡ done) × (r.shares ≡ p.tally.shares) × (p.tally.lost ≡ false))
    (λ r. IsRunOf rules asked.packets asked.node asked.ring asked.commands r.record)
    (λ r h. subst (λ (d : NodeRecord). IsRunOf rules asked.packets asked.node asked.ring asked.commands d) (sym h.0) is)
    c.unless_lost.ensures.is

pub returns-then-progress-assignment-clause-parts : goal.returns-then-progress-assignment-clause-parts
returns-then-progress-assignment-clause-parts g c =
    let rules : Rules = rules_for (λ s z. g.S.Scheme.pick s z) (λ h. g.H.FlowHash.plain h) c.args.task.assignment.setup.now c.args.task.assignment.catalogue.now in
    let asked : Asked _ _ = asked_in c.args.task.assignment in
    let p = c.in_ok-lived.lived.progress in
    let lived : IsLived rules asked c.loop-sent.life.start c.loop-sent.life.parts p.at p.journal p.tally.lost p.tally.shares
    = subst (λ (a : Asked _ _). IsLived (rules_for (λ s z. g.S.Scheme.pick s z) (λ h. g.H.FlowHash.plain h) a.setup a.catalogue) a c.loop-sent.life.start c.loop-sent.life.parts p.at p.journal p.tally.lost p.tally.shares) c.loop-sent.invariant.asked c.in_ok-lived.ensures in
    IfOk-weaker c.unless_lost.result
    (λ r. (r.record ≡ c.in_ok-kept.kept) × (r.shares ≡ p.tally.shares) × (p.tally.lost ≡ false))
    (λ r. r.shares.parts ≡ c.args.task.shares.parts)
    (λ r h. ap (λ (s : Counted). s.parts) h.1 ∙ lived.parts_are ∙ c.loop-sent.invariant.parts)
    c.unless_lost.ensures.is

pub returns-then-progress-assignment-clause-counts : goal.returns-then-progress-assignment-clause-counts
returns-then-progress-assignment-clause-counts g c = λ read.
    let rules : Rules = rules_for (λ s z. g.S.Scheme.pick s z) (λ h. g.H.FlowHash.plain h) c.args.task.assignment.setup.now c.args.task.assignment.catalogue.now in
    let asked : Asked _ _ = asked_in c.args.task.assignment in
    let p = c.in_ok-lived.lived.progress in
    let lived : IsLived rules asked c.loop-sent.life.start c.loop-sent.life.parts p.at p.journal p.tally.lost p.tally.shares
    = subst (λ (a : Asked _ _). IsLived (rules_for (λ s z. g.S.Scheme.pick s z) (λ h. g.H.FlowHash.plain h) a.setup a.catalogue) a c.loop-sent.life.start c.loop-sent.life.parts p.at p.journal p.tally.lost p.tally.shares) c.loop-sent.invariant.asked c.in_ok-lived.ensures in
    let done : NodeRecord = c.in_ok-kept.kept in
    let shares : Counted = p.tally.shares in
    let same : done.outcomes.items ≡ p.journal.outcomes = c.in_ok-kept.ensures.is.0 in
    IfOk-weaker c.unless_lost.result
    (λ r. (r.record ≡ done) × (r.shares ≡ shares) × (p.tally.lost ≡ false))
    (λ r. r.shares ≡ counted r.shares.parts r.record.outcomes.items)
    (λ r h.
    let told : shares ≡ counted shares.parts r.record.outcomes.items
    = subst (λ (os : List Outcome). shares ≡ counted shares.parts os) (sym (ap (λ (d : NodeRecord). d.outcomes.items) h.0 ∙ same)) (lived.counts read h.2) in
    subst (λ (s : Counted). s ≡ counted s.parts r.record.outcomes.items) (sym h.1) told)
    c.unless_lost.ensures.is

pub returns-then-progress-assignment-clause-unmarked : goal.returns-then-progress-assignment-clause-unmarked
returns-then-progress-assignment-clause-unmarked g c = λ paced.
    let rules : Rules = rules_for (λ s z. g.S.Scheme.pick s z) (λ h. g.H.FlowHash.plain h) c.args.task.assignment.setup.now c.args.task.assignment.catalogue.now in
    let asked : Asked _ _ = asked_in c.args.task.assignment in
    let p = c.in_ok-lived.lived.progress in
    let lived : IsLived rules asked c.loop-sent.life.start c.loop-sent.life.parts p.at p.journal p.tally.lost p.tally.shares
    = subst (λ (a : Asked _ _). IsLived (rules_for (λ s z. g.S.Scheme.pick s z) (λ h. g.H.FlowHash.plain h) a.setup a.catalogue) a c.loop-sent.life.start c.loop-sent.life.parts p.at p.journal p.tally.lost p.tally.shares) c.loop-sent.invariant.asked c.in_ok-lived.ensures in
    let done : NodeRecord = c.in_ok-kept.kept in
    let same : done.events.items ≡ p.journal.events = c.in_ok-kept.ensures.is.1 in
    let none : AreUnmarked done.events.items = subst (λ (es : List Event). AreUnmarked es) (sym same) (lived.unmarked paced) in
    IfOk-weaker c.unless_lost.result
    (λ r. (r.record ≡ done) × (r.shares ≡ p.tally.shares) × (p.tally.lost ≡ false))
    (λ r. AreUnmarked r.record.events.items)
    (λ r h. subst (λ (d : NodeRecord). AreUnmarked d.events.items) (sym h.0) none)
    c.unless_lost.ensures.is

pub returns-then-progress-assignment-clause-told : goal.returns-then-progress-assignment-clause-told
returns-then-progress-assignment-clause-told g c =
    let rules : Rules = rules_for (λ s z. g.S.Scheme.pick s z) (λ h. g.H.FlowHash.plain h) c.args.task.assignment.setup.now c.args.task.assignment.catalogue.now in
    let asked : Asked _ _ = asked_in c.args.task.assignment in
    let p = c.in_ok-lived.lived.progress in
    let lived : IsLived rules asked c.loop-sent.life.start c.loop-sent.life.parts p.at p.journal p.tally.lost p.tally.shares
    = subst (λ (a : Asked _ _). IsLived (rules_for (λ s z. g.S.Scheme.pick s z) (λ h. g.H.FlowHash.plain h) a.setup a.catalogue) a c.loop-sent.life.start c.loop-sent.life.parts p.at p.journal p.tally.lost p.tally.shares) c.loop-sent.invariant.asked c.in_ok-lived.ensures in
    let last : IsLast rules asked.packets asked.commands asked.node asked.ring p.journal = lived.ended.last (omega (arith, c.if-progress-assignment.true)) in
    let done : NodeRecord = c.in_ok-kept.kept in
    let is : IsRunOf rules asked.packets asked.node asked.ring asked.commands done
    = same_run rules asked.packets p.journal.node asked.node p.journal.ring asked.ring asked.commands done last.own last.ring (c.in_ok-kept.ensures.run rules asked.packets asked.commands last.tells last.drained last.obeyed last.kept) in
    IfErr-weaker c.unless_lost.result (λ f. f ≡ BookLost) (λ f. NodeTells (λ x y. g.S.PartialEq.eq x y) rules asked f) (λ f e. book_tells (λ x y. g.S.PartialEq.eq x y) rules asked done f is e) c.unless_lost.ensures.lost

pub returns-in_err-life-clause-told : goal.returns-in_err-life-clause-told
returns-in_err-life-clause-told g c =
    let rules : Rules = rules_for (λ s z. g.S.Scheme.pick s z) (λ h. g.H.FlowHash.plain h) c.args.task.assignment.setup.now c.args.task.assignment.catalogue.now in
    let asked : Asked _ _ = asked_in c.args.task.assignment in
    err_exit _ c.from_residual.result Memory c.from_residual.ensures.1 (memory_tells (λ x y. g.S.PartialEq.eq x y) rules asked)

pub returns-in_err-lived-clause-told : goal.returns-in_err-lived-clause-told
returns-in_err-lived-clause-told g c =
    let rules : Rules = rules_for (λ s z. g.S.Scheme.pick s z) (λ h. g.H.FlowHash.plain h) c.args.task.assignment.setup.now c.args.task.assignment.catalogue.now in
    let asked : Asked _ _ = asked_in c.args.task.assignment in
    let e = c.in_err-lived.field-0.0 in
    let told : LifeTells (λ x y. g.S.PartialEq.eq x y) rules asked c.loop-sent.life.start e
    = subst (λ (a : Asked _ _). LifeTells (λ x y. g.S.PartialEq.eq x y) (rules_for (λ s z. g.S.Scheme.pick s z) (λ h. g.H.FlowHash.plain h) a.setup a.catalogue) a c.loop-sent.life.start e) c.loop-sent.invariant.asked c.in_err-lived.ensures in
    err_exit _ c.from_residual-in_err-lived.result e c.from_residual-in_err-lived.ensures.1 (life_tells (λ x y. g.S.PartialEq.eq x y) rules asked c.loop-sent.life.start e told)

pub returns-in_err-keep-clause-told : goal.returns-in_err-keep-clause-told
returns-in_err-keep-clause-told g c =
    let rules : Rules = rules_for (λ s z. g.S.Scheme.pick s z) (λ h. g.H.FlowHash.plain h) c.args.task.assignment.setup.now c.args.task.assignment.catalogue.now in
    let asked : Asked _ _ = asked_in c.args.task.assignment in
    err_exit _ c.from_residual-in_err-keep.result Memory c.from_residual-in_err-keep.ensures.1 (memory_tells (λ x y. g.S.PartialEq.eq x y) rules asked)

pub returns-in_err-kept-clause-told : goal.returns-in_err-kept-clause-told
returns-in_err-kept-clause-told g c =
    let rules : Rules = rules_for (λ s z. g.S.Scheme.pick s z) (λ h. g.H.FlowHash.plain h) c.args.task.assignment.setup.now c.args.task.assignment.catalogue.now in
    let asked : Asked _ _ = asked_in c.args.task.assignment in
    let p = c.in_ok-lived.lived.progress in
    let lived : IsLived rules asked c.loop-sent.life.start c.loop-sent.life.parts p.at p.journal p.tally.lost p.tally.shares
    = subst (λ (a : Asked _ _). IsLived (rules_for (λ s z. g.S.Scheme.pick s z) (λ h. g.H.FlowHash.plain h) a.setup a.catalogue) a c.loop-sent.life.start c.loop-sent.life.parts p.at p.journal p.tally.lost p.tally.shares) c.loop-sent.invariant.asked c.in_ok-lived.ensures in
    let last : IsLast rules asked.packets asked.commands asked.node asked.ring p.journal = lived.ended.last (omega (arith, c.if-progress-assignment.true)) in
    let e = c.in_err-kept.field-0.0 in
    err_exit _ c.from_residual-in_err-kept.result e c.from_residual-in_err-kept.ensures.1 (run_tells (λ x y. g.S.PartialEq.eq x y) rules asked p.journal _ e last c.in_err-kept.ensures.told)
