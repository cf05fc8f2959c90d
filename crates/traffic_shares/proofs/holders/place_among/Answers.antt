use Rattle.std.proofs.Common.{sym, ◌∙◌}
use Rattle.traffic_shares.proofs.Placing.{place_found, place_end}
use Rattle.traffic_shares.proofs.holders.place_among.Goals as goal

pub returns-in-Some-clause-placed : goal.returns-in-Some-clause-placed
returns-in-Some-clause-placed c = place_found c.args.key.now c.args.keys.now _ (sym c.first_behind.ensures ∙ c.in-Some.is)

pub returns-in-None-clause-placed : goal.returns-in-None-clause-placed
returns-in-None-clause-placed c = place_end c.args.key.now c.args.keys.now (sym c.first_behind.ensures ∙ c.in-None.is)
