use Rattle.simulate_scenario.proofs.Parting.{part_keeps, stopped_of_part}
use Rattle.simulate_scenario.proofs.Turning.{told_of_turned}
use Rattle.simulate_scenario.proofs.playing.play_turned.Goals as goal

pub returns-in-Ok-clause-ok : goal.returns-in-Ok-clause-ok
returns-in-Ok-clause-ok g c =
    told_of_turned (λ first pages text whole. g.P.Pages.told first pages text whole) c.args.part.only c.args.part.whole c.args.listing.listing.wanted c.args.listing.listing.pages c.in-Ok.told.1 c.args.listing.ordinals c.in-Ok.told.0 _ _ _ _ c.in-Ok.ensures.ok

pub returns-in-Ok-clause-kept : goal.returns-in-Ok-clause-kept
returns-in-Ok-clause-kept g c = part_keeps c.args.part.only c.args.part.whole _ _ _ _ c.slots-slots.ensures.listed c.keeps_doubles_out.ensures

pub returns-in-Err-clause-stopped : goal.returns-in-Err-clause-stopped
returns-in-Err-clause-stopped g c = stopped_of_part c.args.part.only c.args.part.whole _ _ _ _ _ c.in-Err.ensures.stopped
