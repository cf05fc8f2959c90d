use Rattle.std.proofs.Common.{◌∙◌}
use Rattle.std.proofs.lemmas.List.{reverse-reverse}
use Rattle.scenario_sketch.proofs.Found.{origin_found}
use Rattle.scenario_sketch.proofs.origins.Origins.of.Goals as goal

pub returns : goal.returns
returns c =
    c.copied.ensures ∙ c.get.ensures.value ∙ c.self.invariant c.args.to ∙ origin_found c.args.to c.args.self.now c.self.inside.past.items c.self.view_is (reverse-reverse c.self.inside.past.items)
