use Rattle.std.proofs.Common.{◌≡◌, ◌+◌, ◌++◌, ◌∷◌, [], ℕ, List, length, sym, ap, ◌∙◌, subst, None, arith}
use Rattle.std.proofs.lemmas.List.{length_push}
use Rattle.five_tuple.specs.declared.Flow.{Flow}
use Rattle.connection_table.specs.Tied.{flow_hash}
use Rattle.flow_map.specs.Maps.{valued, value_of}
use Rattle.flow_map.specs.PrivateMaps.{AreHashed, EachOnce}
use Rattle.flow_map.proofs.Maps.{push_valued, once_valued}
use Rattle.flow_map.proofs.Places.{pushed_hashed}
use Rattle.flow_map.proofs.map.FlowMap.push.Goals as goal

pub returns-clause-ok : goal.returns-clause-ok
returns-clause-ok g c =
    let ps = c.self.inside.pairs.items in
    let items : c.push_reserved.new.self.items ≡ ps ++ (c.args.flow, c.args.value) ∷ [] = c.push_reserved.ensures.items ∙ ap (λ (l : List (Flow × g.row.V.Denot)). l ++ (c.args.flow, c.args.value) ∷ []) c.reserve.ensures.items in
    items
    ∙ push_valued c.args.flow c.args.value ps (ap (value_of c.args.flow) c.self.view_is ∙ c.requires)
    ∙ ap (valued c.args.flow c.args.value) c.self.view_is

pub invariant_of-self-2 : goal.invariant_of-self-2
invariant_of-self-2 g c =
    let m = c.self.inside in
    let t = c.self.invariant in
    let ps = m.pairs.items in
    let hashes : c.add.new.self ≡ m.buckets ++ c.hash_of.result ∷ [] = c.in_ok-add.ensures.ok in
    let items : c.push_reserved.new.self.items ≡ ps ++ (c.args.flow, c.args.value) ∷ [] = c.push_reserved.ensures.items ∙ ap (λ (l : List (Flow × g.row.V.Denot)). l ++ (c.args.flow, c.args.value) ∷ []) c.reserve.ensures.items in
    let many : length c.push_reserved.new.self.items ≡ length ps + 1 = ap length items ∙ length_push ps (c.args.flow, c.args.value) in
    let more : length c.add.new.self ≡ length m.buckets + 1 = ap length hashes ∙ length_push m.buckets c.hash_of.result in
    let absent : value_of c.args.flow ps ≡ None = ap (value_of c.args.flow) c.self.view_is ∙ c.requires in
    record {
      few = omega (arith, many, c.if-len-ge-MOST.false, c.len.ensures);
      long = omega (arith, more, many, t.long);
      hashed = subst (λ (l : List (Flow × g.row.V.Denot)). AreHashed (flow_hash m.key) c.add.new.self l) (sym items)
          (subst (λ (hs : List ℕ). AreHashed (flow_hash m.key) hs (ps ++ (c.args.flow, c.args.value) ∷ [])) (sym hashes)
          (pushed_hashed (flow_hash m.key) m.buckets ps c.hash_of.result c.args.flow c.args.value t.hashed t.long c.hash_of.ensures));
      once = subst EachOnce (sym (items ∙ push_valued c.args.flow c.args.value ps absent)) (once_valued c.args.flow c.args.value ps t.once);
    }
