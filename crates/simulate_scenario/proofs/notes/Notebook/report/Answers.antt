use Rattle.std.proofs.Common.{◌≡◌, ◌∷◌, refl, sym, ◌∙◌, subst, true}
use Rattle.std.specs.Prelude.{option_copied}
use Rattle.cluster_core.specs.Histories.{outcomes_of}
use Rattle.event_trace.specs.declared.counts.Counts.{Counts}
use Rattle.event_trace.specs.Noting.{said_by}
use Rattle.event_trace.specs.Counting.{CountsAre}
use Rattle.event_trace.proofs.Counted.{then_ok}
use Rattle.simulate_scenario.specs.Asked.{is_plain, keeps_only_changes}
use Rattle.simulate_scenario.proofs.Noted.{plain_more, changes_more, lists_same}
use Rattle.simulate_scenario.proofs.notes.Notebook.report.Goals as goal

pub returns-then-self : goal.returns-then-self
returns-then-self c = λ past h.
    let plain : is_plain c.args.wanted.now ≡ true = sym h.2 ∙ c.if-self.true in
    (c.in_ok-count.ensures (outcomes_of past) h.0, plain_more c.args.wanted.now past (said_by c.args.event.now (option_copied c.args.packet) c.args.outcome.now) c.args.self.now _ plain refl refl refl h.1, h.2, h.3)

pub returns-then-self-2 : goal.returns-then-self-2
returns-then-self-2 c = λ past h.
    let only : keeps_only_changes c.args.wanted.now ≡ true = sym h.3 ∙ c.if-self-2.true in
    then_ok c.note.result _ _ (λ k. (c.in_ok-count.ensures (outcomes_of past) h.0, k, h.2, h.3))
    (changes_more c.note.result c.args.wanted.now past (said_by c.args.event.now (option_copied c.args.packet) c.args.outcome.now) c.args.self.now _ only refl refl refl (λ book. c.note.ensures past book) h.1)

pub returns : goal.returns
returns c = λ past h.
    then_ok c.more.result _ _
    (λ k. (subst (λ (x : Counts). CountsAre (outcomes_of (said_by c.args.event.now (option_copied c.args.packet) c.args.outcome.now ∷ past)) x) (sym c.more.ensures.counts) (c.in_ok-count.ensures (outcomes_of past) h.0), k, c.more.ensures.is_plain ∙ h.2, c.more.ensures.only_changes ∙ h.3))
    (c.more.ensures.more past (lists_same c.args.wanted.now.form c.args.wanted.now.list past c.args.self.now _ refl refl h.1.0, h.1.1, h.1.2, h.1.3))
