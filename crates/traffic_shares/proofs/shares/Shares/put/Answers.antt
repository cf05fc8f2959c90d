use Rattle.std.proofs.Common.{Bool, sym, subst}
use Rattle.std.specs.Prelude.{OnOk}
use Rattle.traffic_shares.specs.Shares.{Portion, put_into, keys_with}
use Rattle.traffic_shares.specs.Books.{AreShares, Renewed}
use Rattle.traffic_shares.proofs.Kept.{put_yet}
use Rattle.traffic_shares.proofs.shares.Shares.put.Goals as goal

pub returns-then-branch : goal.returns-then-branch
returns-then-branch c = λ keys portion h.
    put_yet keys portion c.args.holder.now c.args.flow.now c.args.len c.renew.new.self
    (subst (λ (b : Bool). Renewed b keys portion c.args.holder.now c.args.flow.now c.args.len c.renew.new.self) c.if-branch.true (c.in_ok-renew.ensures keys portion h))

pub returns : goal.returns
returns c = λ keys portion h.
    let r = subst (λ (b : Bool). Renewed b keys portion c.args.holder.now c.args.flow.now c.args.len c.renew.new.self) c.if-branch.false (c.in_ok-renew.ensures keys portion h) in
    subst (λ (p : Portion). OnOk c.begin.result (AreShares (keys_with p c.args.holder.now keys) (put_into portion c.args.holder.now c.args.flow.now c.args.len) c.begin.new.self)) (sym r.1) (c.begin.ensures keys portion r.0 r.1)
