use Rattle.std.proofs.Common.{rules, ◌∙◌, ap, map}
use Rattle.version_drafts.specs.Plain.{plain_service}
use Rattle.scenario_pools.proofs.Places.{put_at, put_behind}
use Rattle.scenario_pools.proofs.basing.place.Goals as goal

pub returns-then-place-len : goal.returns-then-place-len
returns-then-place-len c = put_at c.key.result c.args.service c.args.services.now.items c.place_of-place.result (search rules) (search rules) (search rules)

pub returns-in-Ok : goal.returns-in-Ok
returns-in-Ok c =
    ap (map plain_service) c.in-Ok.ensures
    ∙ put_behind c.key.result c.args.service c.args.services.now.items c.place_of-place.result (search rules) (search rules) (search rules)
