use Rattle.std.proofs.Common.{◌≡◌, List, sym, ◌∙◌, subst, arith}
use Rattle.five_tuple.specs.declared.Flow.{Flow}
use Rattle.flow_map.specs.Maps.{StandsAt}
use Rattle.flow_map.proofs.Places.{found_place}
use Rattle.flow_map.proofs.map.FlowMap.is_at.Goals as goal

pub returns-then-place-ne0-clause-there : goal.returns-then-place-ne0-clause-there
returns-then-place-ne0-clause-there g c = λ hit.
    let m = c.self.inside in
    subst (λ (ps : List (Flow × g.row.V.Denot)). StandsAt c.args.flow.now ps c.args.place) c.self.view_is
    (found_place m.key m.buckets m.pairs.items c.args.flow.now c.args.place c.self.invariant (omega (arith, c.if-place-ne0.true)) (sym hit ∙ c.is_at.ensures))
