use Rattle.std.proofs.Common.{◌≡◌, ◌∙◌, ap, subst}
use Rattle.std.specs.Prelude.{IfOk, IfErr}
use Rattle.hash_laws.specs.declared.any.AnyHash.{AnyHash}
use Rattle.hash_laws.specs.Any.{plain_of}
use Rattle.spreader.specs.Choices.{Choice}
use Rattle.named_scheme.specs.Picking.{pick_of}
use Rattle.named_spread.specs.Choosing.{choice_by}
use Rattle.cluster_core.specs.Deployed.{cluster_of}
use Rattle.run_report.specs.Causes.{lookups_of}
use Rattle.node_part.specs.Parts.{part_of, part_trace}
use Rattle.simulation.specs.Plans.{planned}
use Rattle.simulation.specs.Simulated.{Stopped}
use Rattle.simulate_scenario.specs.Told.{AnswersBy}
use Rattle.simulate_scenario.proofs.playing.play_over.Goals as goal

pub returns-clause-ok : goal.returns-clause-ok
returns-clause-ok g c =
    let part = c.args.run.now.setup.now in
    let d = part.whole.deployment in
    let k = cluster_of (λ s z. pick_of s z) (λ h. plain_of h) d in
    let lookups = lookups_of (plain_of d.setup.hash) d.setup.size d.catalogue in
    let hash : c.hash-hash.result ≡ d.setup.hash = c.hash-hash.ensures ∙ ap (λ s. s.hash) c.setup.ensures.setup in
    let choice = c.in-Ok.ensures.choice ∙ ap (λ (h : AnyHash). choice_by c.args.spread (plain_of h)) hash in
    subst (λ (x : Choice). IfOk c.play_with.result (λ r. AnswersBy (λ l i t p e. g.N.Answering.is_answered part.whole.asked r.1 r.0 l i (part_trace part.only t) p e) (part_of part.only k) x (planned c.args.run.now.plan) lookups d.setup.idle
    (g.I.Source.tape c.args.input.now) (g.I.Source.tape c.play_with.new.input) (g.O.Outlet.tape c.args.output.now) (g.O.Outlet.tape c.play_with.new.output))) choice c.play_with.ensures.ok

pub returns-clause-stopped : goal.returns-clause-stopped
returns-clause-stopped g c =
    let part = c.args.run.now.setup.now in
    let d = part.whole.deployment in
    let k = cluster_of (λ s z. pick_of s z) (λ h. plain_of h) d in
    let hash : c.hash-hash.result ≡ d.setup.hash = c.hash-hash.ensures ∙ ap (λ s. s.hash) c.setup.ensures.setup in
    let choice = c.in-Ok.ensures.choice ∙ ap (λ (h : AnyHash). choice_by c.args.spread (plain_of h)) hash in
    subst (λ (x : Choice). IfErr c.play_with.result (λ e. Stopped (part_of part.only k) x (planned c.args.run.now.plan)
    (g.I.Source.tape c.args.input.now) (g.I.Source.tape c.play_with.new.input) (g.O.Outlet.tape c.args.output.now) (g.O.Outlet.tape c.play_with.new.output) e.fault)) choice c.play_with.ensures.stopped
