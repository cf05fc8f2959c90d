use Rattle.std.proofs.Common.{◌≡◌, List, reverse, subst}
use Rattle.std.specs.Prelude.{IfOk}
use Rattle.scenario_sketch.specs.declared.counted.Counted.{Counted}
use Rattle.scenario_sketch.proofs.Counting.{busy_from}
use Rattle.scenario_sketch.proofs.tally.Tally.busy.Goals as goal

pub returns : goal.returns
returns c =
    subst (λ (xs : List Counted). IfOk c.busy_in.result (λ v. v.items ≡ xs))
    (busy_from (reverse c.self.inside.past.items) c.args.self.now c.self.inside.counts.entries c.self.invariant c.self.view_is) c.busy_in.ensures
