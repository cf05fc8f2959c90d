use Rattle.std.proofs.Common.{◌≡◌, List, take, map}
use Rattle.traffic_shares.specs.declared.holders.ShareKey.{ShareKey}
use Rattle.traffic_shares.specs.Shares.{Portion, row_with}
use Rattle.traffic_shares.specs.Books.{AreShares}
use Rattle.traffic_shares.proofs.shares.Shares.rows.Given as goal

abbrev pub invariant-loop-holder : goal.invariant-loop-holder
invariant-loop-holder l = (keys : List ShareKey) (portion : ShareKey → Portion) → AreShares keys portion l.self → l.rows.items ≡ map (λ k. row_with portion k) (take l.holder-index l.self.holders.items)
