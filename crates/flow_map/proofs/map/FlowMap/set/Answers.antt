use Rattle.std.proofs.Common.{◌≡◌, ◌-◌, List, length, set, sym, ap, ◌∙◌, subst, Some, arith}
use Rattle.std.specs.Prelude.{slice_get}
use Rattle.std.proofs.lemmas.List.{length-set}
use Rattle.five_tuple.specs.declared.Flow.{Flow}
use Rattle.connection_table.specs.Tied.{flow_hash}
use Rattle.flow_map.specs.Maps.{valued}
use Rattle.flow_map.specs.PrivateMaps.{EachOnce}
use Rattle.flow_map.proofs.Maps.{set_valued, once_valued}
use Rattle.flow_map.proofs.Places.{written_hashed}
use Rattle.flow_map.proofs.map.FlowMap.set.Goals as goal

pub returns : goal.returns
returns g c =
    let m = c.self.inside in
    let ps = m.pairs.items in
    let there : slice_get ps (c.args.place - 1) ≡ Some (c.args.flow, c.requires.0) = ap (λ (l : List (Flow × g.row.V.Denot)). slice_get l (c.args.place - 1)) c.self.view_is ∙ c.requires.1.there in
    set_valued c.args.flow c.args.value c.requires.0 ps (c.args.place - 1) c.self.invariant.once there ∙ ap (valued c.args.flow c.args.value) c.self.view_is

pub invariant_of-self : goal.invariant_of-self
invariant_of-self g c =
    let m = c.self.inside in
    let t = c.self.invariant in
    let ps = m.pairs.items in
    let i = c.args.place - 1 in
    let there : slice_get ps i ≡ Some (c.args.flow, c.requires.0) = ap (λ (l : List (Flow × g.row.V.Denot)). slice_get l i) c.self.view_is ∙ c.requires.1.there in
    let long : length (set ps i (c.args.flow, c.args.value)) ≡ length ps = length-set ps i (c.args.flow, c.args.value) in
    record {
      few = omega (arith, long, t.few);
      long = t.long ∙ sym long;
      hashed = written_hashed (flow_hash m.key) m.buckets ps i c.args.flow c.args.value c.requires.0 t.hashed there;
      once = subst EachOnce (sym (set_valued c.args.flow c.args.value c.requires.0 ps i t.once there)) (once_valued c.args.flow c.args.value ps t.once);
    }
