use Rattle.std.proofs.Common.{◌≡◌, reverse, string_bytes, subst, sym, ap, refl, None}
use Rattle.std.specs.Prelude.{IfOk}
use Rattle.hash_laws.specs.Any.{plain_of}
use Rattle.named_scheme.specs.Picking.{pick_of}
use Rattle.cluster_core.specs.Histories.{outcomes_of}
use Rattle.cluster_core.specs.Deployed.{rules_of}
use Rattle.run_report.specs.Causes.{lookups_of}
use Rattle.simulate_scenario.specs.declared.asking.Query.{Query}
use Rattle.simulate_scenario.specs.Answers.{answer_of, counts_for}
use Rattle.simulate_scenario.specs.Notebooks.{AreOf}
use Rattle.simulate_scenario.specs.declared.notes.Notebook.{Notebook}
use Rattle.event_trace.specs.declared.counts.Counts.{Counts}
use Rattle.event_trace.specs.Counting.{CountsAre}
use Rattle.simulate_scenario.proofs.Asks.{picked_if, explanation_told}
use Rattle.simulate_scenario.proofs.answering.NotebookAnswering.answer.Goals as goal

pub report-requires-clause-counts : goal.report-requires-clause-counts
report-requires-clause-counts c =
    let past = c.args.ended.now.trace.past in
    let h = subst (λ (a : Query). AreOf a past c.args.self.now) c.in-Report.is c.requires.notes in
    subst (λ (x : Counts). CountsAre (outcomes_of past) x) (sym (ap (λ (n : Notebook). n.counts) c.in_ok-settle-in-Report.ensures.rest)) h.0

pub report-requires-clause-books : goal.report-requires-clause-books
report-requires-clause-books c =
    let past = c.args.ended.now.trace.past in
    let h = subst (λ (a : Query). AreOf a past c.args.self.now) c.in-Report.is c.requires.notes in
    c.in_ok-settle-in-Report.ensures.books past h.1

pub explanation-requires-clause-one : goal.explanation-requires-clause-one
explanation-requires-clause-one c = λ steady.
    let two = subst (λ (a : Query). AreOf a c.args.ended.now.trace.past c.args.self.now) c.in-Events.is c.requires.notes in
    picked_if (rules_of (λ s z. pick_of s z) (λ h. plain_of h) c.args.task.now.deployment) (outcomes_of (reverse c.args.ended.now.trace.past)) c.in-Events.two.one c.args.self.now.one
    (c.send_by_picks.ensures steady c.args.ended.now.trace.past c.requires.judged) two.one_is

pub explanation-requires-clause-other : goal.explanation-requires-clause-other
explanation-requires-clause-other c = λ steady.
    let two = subst (λ (a : Query). AreOf a c.args.ended.now.trace.past c.args.self.now) c.in-Events.is c.requires.notes in
    picked_if (rules_of (λ s z. pick_of s z) (λ h. plain_of h) c.args.task.now.deployment) (outcomes_of (reverse c.args.ended.now.trace.past)) c.in-Events.two.other c.args.self.now.other
    (c.send_by_picks.ensures steady c.args.ended.now.trace.past c.requires.judged) two.other_is

pub returns-in_ok-text-in-Events : goal.returns-in_ok-text-in-Events
returns-in_ok-text-in-Events c =
    let task = c.args.task.now in
    let lookups = lookups_of (plain_of task.deployment.setup.hash) task.deployment.setup.size task.deployment.catalogue in
    let ended = c.args.ended.now in
    let two = subst (λ (a : Query). AreOf a ended.trace.past c.args.self.now) c.in-Events.is c.requires.notes in
    let told = explanation_told string_bytes c.explanation.result lookups task.deployment.setup.idle task.asked ended.trace ended.packets ended.ending c.in-Events.two (string_bytes c.args.self.now.lines)
    c.args.self.now.one c.args.self.now.other c.args.self.now.first c.args.self.now.later c.in-Events.is two.lines two.one_is two.other_is two.first_is two.later_is c.explanation.ensures in (
      subst (λ r. IfOk r (λ s. string_bytes s ≡ answer_of lookups task.deployment.setup.idle task.asked ended.trace ended.packets ended.ending)) c.in_ok-text-in-Events.was told,
      subst (λ (a : Query). None ≡ counts_for a ended.trace.past) (sym c.in-Events.is) refl,
    )
