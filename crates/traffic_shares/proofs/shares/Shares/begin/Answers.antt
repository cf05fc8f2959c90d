use Rattle.std.proofs.Common.{sym, ap, ◌∙◌, List, subst}
use Rattle.std.specs.List.{insert}
use Rattle.traffic_shares.specs.declared.holders.ShareKey.{ShareKey}
use Rattle.traffic_shares.specs.declared.shares.Shares.{Shares}
use Rattle.traffic_shares.specs.Holders.{placed}
use Rattle.traffic_shares.specs.Shares.{Portion, nothing, one_more}
use Rattle.traffic_shares.specs.Books.{IsPortion}
use Rattle.traffic_shares.proofs.Kept.{share_put}
use Rattle.traffic_shares.proofs.shares.Shares.begin.Goals as goal

pub returns : goal.returns
returns c = λ keys portion h none.
    let made : Shares = record c.args.self.now { holders = c.insert.new.self; shares = c.insert-2.new.self } in
    record {
      holders =
          c.in-Ok.ensures.items ∙ ap (λ (l : List ShareKey). insert l c.place_among-place.result c.args.holder.now) (sym c.as_slice.ensures.value)
          ∙ c.place_among-place.ensures.placed ∙ ap (λ (l : List ShareKey). placed c.args.holder.now l) (c.as_slice.ensures.value ∙ h.holders);
      each = share_put keys portion c.args.holder.now c.args.flow.now c.args.len c.args.self.now made c.take.new.self h
          (subst (λ (p : Portion). IsPortion (one_more c.args.flow.now c.args.len p) c.take.new.self) (sym none) (c.in_ok-take.ensures nothing c.new-share.ensures)) c.in-Ok-insert.ensures.updates.0;
    }
