use Rattle.std.proofs.Common.{[], ◌∷◌, refl}
use Rattle.simulate_scenario.proofs.Keeping.{keeps}
use Rattle.simulate_scenario.proofs.Listed.{listed_told}
use Rattle.simulate_scenario.proofs.playing.play_listed.Goals as goal

pub returns-in-Ok-clause-ok : goal.returns-in-Ok-clause-ok
returns-in-Ok-clause-ok g c =
    listed_told (λ first pages text whole. g.P.Pages.told first pages text whole) c.args.scenario c.args.listing.wanted c.args.listing.wanted c.args.listing.pages c.in-Ok.told.1
    c.in-Ok.told.1 (c.args.listing.pages ∷ []) c.in-Ok.told.0 _ _ _ _ refl refl refl c.in-Ok.ensures.ok

pub returns-in-Ok-clause-kept : goal.returns-in-Ok-clause-kept
returns-in-Ok-clause-kept g c = λ whole a. keeps c.args.scenario _ _ _ _ _ _ a.trace a.packets a.ending c.slots-slots.ensures.listed c.keeps_doubles_out.ensures a.simulated
