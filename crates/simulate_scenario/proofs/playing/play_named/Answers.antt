use Rattle.std.proofs.Common.{ap, ◌∙◌, ℕ}
use Rattle.forwarder.specs.Serving.{Pick}
use Rattle.named_scheme.specs.Picking.{pick_of}
use Rattle.simulate_scenario.proofs.Carries.{answers, stops, ruled, planned_as}
use Rattle.simulate_scenario.proofs.playing.play_named.Goals as goal

pub returns-in-Ok-play_over-clause-ok : goal.returns-in-Ok-play_over-clause-ok
returns-in-Ok-play_over-clause-ok g c =
    let is = ruled c.scheme_of-scheme.result c.args.part.whole c.in-Some.deployment c.keyed.result c.in-Some.ensures.1 (c.keyed.ensures ∙ c.in-Ok.ensures.1) in
    let picks = ap (λ (pick : ℕ → Pick). pick c.args.part.whole.size) c.scheme_of-scheme.ensures in
    answers (λ s z. pick_of s z) c.scheme_of-scheme.result c.args.part.whole c.args.part.only c.in-Some.deployment _ _ _ _ _ _ picks is
    (planned_as c.args.part.whole c.nodes.result.now c.as_slice.result.now (c.nodes.ensures.nodes ∙ ap (λ s. s.nodes) c.setup.ensures.setup ∙ ap (λ r. r.setup.nodes) is) c.as_slice.ensures.value)
    c.in-Ok-play_over.ensures.ok

pub returns-clause-stopped : goal.returns-clause-stopped
returns-clause-stopped g c =
    let is = ruled c.scheme_of-scheme.result c.args.part.whole c.in-Some.deployment c.keyed.result c.in-Some.ensures.1 (c.keyed.ensures ∙ c.in-Ok.ensures.1) in
    let picks = ap (λ (pick : ℕ → Pick). pick c.args.part.whole.size) c.scheme_of-scheme.ensures in
    stops (λ s z. pick_of s z) c.scheme_of-scheme.result c.args.part.whole c.args.part.only c.in-Some.deployment _ _ _ _ _ c.in-Err.given_up.fault picks is
    (planned_as c.args.part.whole c.nodes.result.now c.as_slice.result.now (c.nodes.ensures.nodes ∙ ap (λ s. s.nodes) c.setup.ensures.setup ∙ ap (λ r. r.setup.nodes) is) c.as_slice.ensures.value)
    c.in-Err.ensures.stopped
