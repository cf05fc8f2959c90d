use Rattle.std.proofs.Common.{sym, ap}
use Rattle.std.specs.HashMap.{get}
use Rattle.traffic_shares.specs.Holders.{same_share}
use Rattle.traffic_shares.specs.Shares.{taken}
use Rattle.traffic_shares.proofs.Kept.{taken_some, held_none}
use Rattle.traffic_shares.proofs.shares.Shares.taken.Goals as goal

pub returns-in-Some : goal.returns-in-Some
returns-in-Some c = λ keys portion h.
    taken_some (portion c.args.key.now) (get same_share c.args.self.now.shares c.args.key.now) c.in-Some.share.now c.len.result (h.each c.args.key.now) (sym c.in-Some.ensures.value) (λ xs f. c.len.ensures xs f)

pub returns-in-None : goal.returns-in-None
returns-in-None c = λ keys portion h.
    ap taken (sym (held_none (portion c.args.key.now) (get same_share c.args.self.now.shares c.args.key.now) (h.each c.args.key.now) (sym c.in-None.ensures.value)))
