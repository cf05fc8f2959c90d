use Rattle.std.proofs.Common.{◌≡◌, ◌+◌, ◌<◌, ◌^◌, ◌++◌, ◌∷◌, [], List, true, length, refl, subst, arith}
use Rattle.std.specs.Prelude.{◌↔◌}
use Rattle.std.proofs.lemmas.List.{length_push}
use Rattle.cluster_node.specs.Rules.{Rules}
use Rattle.cluster_node.specs.declared.events.Event.{Event}
use Rattle.cluster_node.specs.declared.events.Event.TheVariants.{Install}
use Rattle.cluster_node.specs.declared.outcomes.Outcome.{Outcome}
use Rattle.cluster_core.specs.Setups.{rules_for}
use Rattle.cluster_core.specs.Runs.{verdicts}
use Rattle.cluster_core.proofs.Nodes.{kept_first, kept_more, kept_whole}
use Rattle.thread_records.proofs.Audits.{agrees_first, agrees_more, agrees_all}
use Rattle.thread_records.proofs.audit.agrees.Goals as goal

pub loop-at-init : goal.loop-at-init
loop-at-init g c =
    let rules : Rules = rules_for (λ s z. g.S.Scheme.pick s z) (λ h. g.H.FlowHash.plain h) c.args.setup.now c.args.catalogue.now in
    let events = c.history-events.result.now in (
      [],
      refl,
      kept_first (λ s z. g.S.Scheme.pick s z) rules c.args.packets.now events _ _ refl (c.in_ok-run.ensures.stands c.args.catalogue.now),
      agrees_first (length events) c.outcome_count.result (g.N.Recorded.outcomes_of c.args.node.now) c.outcome_count.ensures,
    )

pub loop-at-preserved : goal.loop-at-preserved
loop-at-preserved g c =
    let rules : Rules = rules_for (λ s z. g.S.Scheme.pick s z) (λ h. g.H.FlowHash.plain h) c.args.setup.now c.args.catalogue.now in
    let was = c.loop-at.invariant in
    let o = c.in_ok-outcome.outcome in
    let events = c.history-events.result.now in
    let long : length (was.0 ++ o ∷ []) ≡ c.loop-at.at + 1 = omega (arith, length_push was.0 o, was.1) in
    let few : length events < 2 ^ 64 = omega arith in (
      was.0 ++ o ∷ [],
      long,
      kept_more (λ s z. g.S.Scheme.pick s z) rules c.args.packets.now events c.loop-at.at was.0 _ c.loop-at.run c.step.new.self (Install 0 0) _ o
          c.loop-at-test.true few c.packet_at.ensures refl c.in_ok-outcome.ensures.verdict was.2,
      agrees_more c.loop-at.agree c.is_told-agree.result (length events) (g.N.Recorded.outcomes_of c.args.node.now) was.0 c.loop-at.at o c.loop-at-test.true was.3 c.is_told-agree.ensures,
    )

pub returns : goal.returns
returns g c =
    let rules : Rules = rules_for (λ s z. g.S.Scheme.pick s z) (λ h. g.H.FlowHash.plain h) c.args.setup.now c.args.catalogue.now in
    let was = c.loop-at.invariant in
    let events = c.history-events.result.now in
    let outcomes : List Outcome = g.N.Recorded.outcomes_of c.args.node.now in
    let is = agrees_all c.loop-at.agree (length events) outcomes was.0 (verdicts rules [] c.args.packets.now events) c.loop-at.at c.loop-at-test.false was.1 (omega (arith, c.loop-at.auto.at-end))
    (kept_whole (λ s z. g.S.Scheme.pick s z) rules c.args.packets.now events c.loop-at.at was.0 c.loop-at.run c.loop-at-test.false was.2) was.3 in
    subst (λ (es : List Event). (c.loop-at.agree ≡ true) ↔ (outcomes ≡ verdicts rules [] c.args.packets.now es)) c.history-events.ensures is
