use Rattle.std.proofs.Common.{◌≡◌, ◌<◌, List, length, get_or, ap, ◌∙◌, subst, map, arith}
use Rattle.std.proofs.lemmas.List.{take_all}
use Rattle.traffic_shares.specs.declared.holders.ShareKey.{ShareKey}
use Rattle.traffic_shares.specs.Shares.{row_with}
use Rattle.traffic_shares.proofs.Walks.{row_more}
use Rattle.traffic_shares.proofs.shares.Shares.rows.Goals as goal

pub loop-holder-preserved : goal.loop-holder-preserved
loop-holder-preserved c = λ keys portion h.
    row_more (λ k. row_with portion k) c.args.self.now.holders.items c.loop-holder.holder-index c.holder-item.result c.loop-holder.rows.items _ c.row.result
    (subst (λ (l : List ShareKey). c.loop-holder.holder-index < length l) c.as_slice-holder-items.ensures.value c.loop-holder-test.true)
    (subst (λ (l : List ShareKey). c.holder-item.result ≡ get_or l c.loop-holder.holder-index c.holder-item.result) c.as_slice-holder-items.ensures.value c.holder-item.is) (c.row.ensures keys portion h) c.in-Ok.ensures.items
    (c.loop-holder.invariant keys portion h)

pub returns : goal.returns
returns c = λ keys portion h.
    c.loop-holder.invariant keys portion h ∙ ap (λ l. map (λ k. row_with portion k) l) (take_all c.loop-holder.holder-index c.args.self.now.holders.items (omega arith)) ∙ ap (λ l. map (λ k. row_with portion k) l) h.holders
