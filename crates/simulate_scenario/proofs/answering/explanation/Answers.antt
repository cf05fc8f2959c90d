use Rattle.std.proofs.Common.{◌≡◌, ℕ, List, Bool, ap, sym, subst, string_bytes}
use Rattle.std.specs.Prelude.{IfOk, option_and_then}
use Rattle.pool_versions.specs.Pool.{Pools}
use Rattle.selection.specs.Candidates.{candidates_of}
use Rattle.cluster_core.specs.declared.explaining.Verdict.{Verdict}
use Rattle.cluster_core.specs.Explain.{send_of, explained}
use Rattle.run_report.specs.Causes.{lookups_of}
use Rattle.run_report.specs.Verdicts.{left_drained}
use Rattle.json_lines.specs.Forms.{explanation_as}
use Rattle.simulate_scenario.proofs.answering.explanation.Goals as goal

pub returns : goal.returns
returns g c =
    let d = c.args.deployment.now in
    let notes = c.args.notes.now in
    let lookups = lookups_of (g.H.FlowHash.plain d.setup.hash) d.setup.size d.catalogue in
    let one = option_and_then (λ o. send_of o) notes.one in
    let other = option_and_then (λ o. send_of o) notes.other in
    let is = sym c.catalogue.ensures.catalogue in
    let drained : c.left_drained-drained.result ≡ left_drained lookups notes.first notes.later =
    c.left_drained-drained.ensures lookups (ap (λ (p : Pools). (λ v x. candidates_of p v x)) is) (ap (λ (p : Pools). p.versions) is) in
    let lines : c.as_str.result.now ≡ string_bytes notes.lines = c.as_str.ensures.value in
    let told : List ℕ → Verdict → Bool → List ℕ = λ l v b. explanation_as c.args.form l v b in
    subst (λ (l : List ℕ). IfOk c.explanation.result (λ s. string_bytes s ≡ told l (explained lookups.slot one other) (left_drained lookups notes.first notes.later))) lines
    (subst (λ (b : Bool). IfOk c.explanation.result (λ s. string_bytes s ≡ told c.as_str.result.now (explained lookups.slot one other) b)) drained
    (subst (λ (v : Verdict). IfOk c.explanation.result (λ s. string_bytes s ≡ told c.as_str.result.now v c.left_drained-drained.result)) c.verdict-verdict.ensures c.explanation.ensures))
