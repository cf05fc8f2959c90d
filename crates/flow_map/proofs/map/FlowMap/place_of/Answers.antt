use Rattle.std.proofs.Common.{◌≡◌, List, None, subst}
use Rattle.std.specs.Prelude.{MatchOption}
use Rattle.five_tuple.specs.declared.Flow.{Flow}
use Rattle.flow_map.specs.Maps.{value_of, StandsAt}
use Rattle.flow_map.proofs.Places.{sought}
use Rattle.flow_map.proofs.map.FlowMap.place_of.Goals as goal

pub returns : goal.returns
returns g c =
    let m = c.self.inside in
    subst (λ (ps : List (Flow × g.row.V.Denot)). MatchOption c.find.result (value_of c.args.flow.now ps ≡ None) (λ p. StandsAt c.args.flow.now ps p)) c.self.view_is
    (sought m.key m.buckets m.pairs.items c.args.flow.now _ c.find.result c.hash_of.result c.self.invariant c.hash_of.ensures (λ p b h. h) c.find.ensures.found c.find.ensures.absent)
