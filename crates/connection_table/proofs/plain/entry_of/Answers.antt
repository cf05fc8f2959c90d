use Rattle.std.proofs.Common.{ap, sym, ◌∙◌, rules, Some}
use Rattle.connection_table.specs.Touches.{Touch}
use Rattle.connection_table.proofs.Places.{entry_at, missing}
use Rattle.connection_table.proofs.plain.entry_of.Goals as goal

pub returns-in-Some : goal.returns-in-Some
returns-in-Some c = ap (λ (t : Touch). Some t.1) (sym c.index-pairs-at.is) ∙ entry_at c.args.flow.now c.args.pairs.now c.in-Some.at c.index-pairs-at.result (search rules) c.index-pairs-at.is

pub returns-in-None : goal.returns-in-None
returns-in-None c = sym (missing c.args.flow.now c.args.pairs.now (search rules)).0
