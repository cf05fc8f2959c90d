use Rattle.std.proofs.Common.{◌≤◌, ◌+◌, arith, rules}
use Rattle.std.proofs.lemmas.Grind.{common_steps}
use Rattle.maglev_table.proofs.permutation.sum_within.Goals as goal

pub returns-else-over-lt0-clause-value : goal.returns-else-over-lt0-clause-value
returns-else-over-lt0-clause-value c =
    let enough : c.args.size ≤ c.args.one + c.args.other = search rules in
    grind (arith, common_steps, enough)
