use Rattle.std.proofs.Common.{◌≡◌, ap, sym, ◌∙◌}
use Rattle.std.proofs.lemmas.List.{reverse-reverse}
use Rattle.std.specs.Prelude.{is_some}
use Rattle.std.specs.Map.{lookup}
use Rattle.indexmap.specs.IndexMap.{insert_entry}
use Rattle.pool_versions.specs.Pool.{same_key}
use Rattle.pool_versions.specs.declared.key.ServiceKey.{ServiceKey}
use Rattle.scenario_sketch.specs.declared.origins.Origin.{Origin}
use Rattle.scenario_sketch.specs.Hops.{origin_after, origin_before, origin_among}
use Rattle.scenario_sketch.proofs.Found.{noted, origin_found}
use Rattle.scenario_sketch.proofs.origins.Origins.note.Goals as goal

pub invariant_of-self-2 : goal.invariant_of-self-2
invariant_of-self-2 c = λ to.
    let es = c.self.inside.found.entries in
    let hop = c.args.hop in
    let past = c.self.inside.past.items in
    let hops = c.args.self.now in
    let found : (k : ServiceKey) → origin_among k hops ≡ lookup (same_key k) es =
    λ k. sym (c.self.invariant k ∙ origin_found k hops past c.self.view_is (reverse-reverse past)) in
    let entries : c.insert.new.self.entries ≡ insert_entry same_key es hop.to (origin_after (origin_among hop.to hops) hop.from (is_some (origin_among hop.from hops))) =
    c.in_ok-insert.ensures.entries ∙ ap (λ (o : Origin). insert_entry same_key es hop.to o) c.after-origin.ensures in
    let all = noted es past hop (origin_among hop.to hops) (origin_among hop.from hops) c.self.invariant (found hop.to) (found hop.from) in
    ap (lookup (same_key to)) entries ∙ all to ∙ ap (origin_before to) (sym c.and-self-inside.ensures)
