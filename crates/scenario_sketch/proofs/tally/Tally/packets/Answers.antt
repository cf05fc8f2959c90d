use Rattle.std.proofs.Common.{List, reverse, ap, ◌∙◌}
use Rattle.std.specs.Prelude.{count_by}
use Rattle.pool_versions.specs.declared.key.ServiceKey.{ServiceKey}
use Rattle.pool_versions.specs.Pool.{same_key}
use Rattle.scenario_sketch.proofs.Counting.{count_read}
use Rattle.scenario_sketch.proofs.tally.Tally.packets.Goals as goal

pub returns : goal.returns
returns c =
    count_read c.args.to (reverse c.self.inside.past.items) c.self.inside.counts.entries c.copied.result c.unwrap_or.result c.unwrap_or.ensures (c.copied.ensures ∙ c.get.ensures.value) c.self.invariant
    ∙ ap (λ (ds : List ServiceKey). count_by (same_key c.args.to) ds) c.self.view_is
