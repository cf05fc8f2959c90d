use Rattle.std.proofs.Common.{sym, rules}
use Rattle.std.specs.HashMap.{get}
use Rattle.traffic_shares.specs.declared.shares.Shares.{Shares}
use Rattle.traffic_shares.specs.Holders.{same_share}
use Rattle.traffic_shares.proofs.Kept.{share_put, held_some, held_none}
use Rattle.traffic_shares.proofs.shares.Shares.renew.Goals as goal

pub returns-in_default : goal.returns-in_default
returns-in_default c = λ keys portion h. (search rules, held_none (portion c.args.holder.now) (get same_share c.args.self.now.shares c.args.holder.now) (h.each c.args.holder.now) (sym c.in_default.ensures.value))

pub returns : goal.returns
returns c = λ keys portion h.
    let f = c.get_mut.follows.holds c.take.new.self in
    let s = held_some (portion c.args.holder.now) (get same_share c.args.self.now.shares c.args.holder.now) c.in-Some.share.now (h.each c.args.holder.now) (sym c.in-Some.ensures.value) in
    let made : Shares = record c.args.self.now { shares = c.get_mut.follows.lender c.take.new.self } in (
      record {
        holders = h.holders;
        each = share_put keys portion c.args.holder.now c.args.flow.now c.args.len c.args.self.now made c.take.new.self h (c.in_ok-take.ensures (portion c.args.holder.now) s.0) (f.3 (search rules)).0;
      },
      s.1,
    )
