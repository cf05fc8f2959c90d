use Rattle.traffic_shares.specs.Shares.{portion_of, keys_of}
use Rattle.traffic_shares.proofs.book.ShareBook.rows.Goals as goal

pub returns : goal.returns
returns c = λ kind past b. c.rows.ensures (keys_of kind past) (λ k. portion_of kind past k) b.shares
