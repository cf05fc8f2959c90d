use Rattle.std.proofs.Common.{Ok, Err, rules}
use Rattle.version_drafts.specs.Drafts.{plain_service_draft}
use Rattle.scenario_pools.proofs.Places.{change_told, none_told}
use Rattle.scenario_pools.proofs.basing.change_one.Goals as goal

pub returns-then-place-len : goal.returns-then-place-len
returns-then-place-len c = none_told c.args.number (plain_service_draft c.args.draft.now) c.key_of.result c.args.services.now.items c.place_of-place.result (search rules) c.key_of.ensures (search rules)

pub returns-in-Ok : goal.returns-in-Ok
returns-in-Ok c =
    change_told c.args.number (plain_service_draft c.args.draft.now) c.key_of.result c.index.result.now c.args.services.now.items c.place_of-place.result (Ok c.in-Ok.service)
    (search rules) c.key_of.ensures (search rules) (search rules) (search rules)

pub returns-in-Err : goal.returns-in-Err
returns-in-Err c =
    change_told c.args.number (plain_service_draft c.args.draft.now) c.key_of.result c.index.result.now c.args.services.now.items c.place_of-place.result (Err c.in-Err.change)
    (search rules) c.key_of.ensures (search rules) (search rules) (search rules)
