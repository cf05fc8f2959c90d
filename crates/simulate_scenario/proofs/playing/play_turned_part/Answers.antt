use Rattle.std.proofs.Common.{[], ◌∷◌, subst, sym}
use Rattle.simulation.specs.declared.fault.SimulationFault.{SimulationFault}
use Rattle.simulation.specs.Simulated.{Stopped}
use Rattle.node_part.specs.Parts.{part_of}
use Rattle.simulate_scenario.specs.Described.{cluster_in, choice_in, plan_in, lookups_in}
use Rattle.simulate_scenario.proofs.Turning.{turned_as}
use Rattle.simulate_scenario.proofs.playing.play_turned_part.Goals as goal

pub returns-in-Ok-play_named-clause-ok : goal.returns-in-Ok-play_named-clause-ok
returns-in-Ok-play_named-clause-ok g c =
    let s = c.args.part.whole in
    turned_as (λ first pages text whole. g.P.Pages.told first pages text whole) c.args.part.only (part_of c.args.part.only (cluster_in s)) (choice_in s) (plan_in s) (lookups_in s) s.idle
    c.in-Ok.asking.asked.wanted c.args.listing.listing.wanted c.in-Ok.asking.asked.paged.first.items (c.args.listing.listing.pages ∷ []) c.in-Ok.asking.asked.ordinals.items (c.args.listing.ordinals ∷ [])
    c.in-Ok-play_named.notes.paged.pages c.into_pages.result c.in-Ok-play_named.answer _ _ _ _
    c.in-Ok.ensures.asked c.in-Ok.ensures.first c.in-Ok.ensures.ordinals c.into_pages.ensures c.in-Ok-play_named.ensures.ok

pub returns-in-Err-play_named-clause-stopped : goal.returns-in-Err-play_named-clause-stopped
returns-in-Err-play_named-clause-stopped g c =
    let s = c.args.part.whole in
    subst (λ (fault : SimulationFault). Stopped (part_of c.args.part.only (cluster_in s)) (choice_in s) (plan_in s) (g.I.Source.tape c.args.input.now) (g.I.Source.tape c.play_named.new.input)
    (g.O.Outlet.tape c.args.output.now) (g.O.Outlet.tape c.play_named.new.output) fault) (sym c.turned_pages_of.ensures) c.in-Err-play_named.ensures.stopped
