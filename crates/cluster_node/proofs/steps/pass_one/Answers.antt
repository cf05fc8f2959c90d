use Rattle.std.proofs.Common.{sym, arith}
use Rattle.cluster_node.proofs.Passing.{number_found}
use Rattle.cluster_node.proofs.steps.pass_one.Goals as goal
use Rattle.std.proofs.lemmas.Grind.{common_steps}

pub pass-requires-clause-floor : goal.pass-requires-clause-floor
pass-requires-clause-floor g c = sym (number_found c.args.item.now.floor c.args.versions.now c.in-Some.prepared.now (sym c.in-Some.ensures))

pub pass-requires-clause-used : goal.pass-requires-clause-used
pass-requires-clause-used g c = omega (arith, (c.is_ready.ensures c.if-is_ready.true).1, number_found c.args.item.now.floor c.args.versions.now c.in-Some.prepared.now (sym c.in-Some.ensures))

pub returns-in_err-choice-in-Some-clause-passed : goal.returns-in_err-choice-in-Some-clause-passed
returns-in_err-choice-in-Some-clause-passed g c = grind (arith, common_steps)

pub returns-in_err-choice-in-Some-clause-after : goal.returns-in_err-choice-in-Some-clause-after
returns-in_err-choice-in-Some-clause-after g c = grind (arith, common_steps)

pub returns-in_err-put-in_default-clause-passed : goal.returns-in_err-put-in_default-clause-passed
returns-in_err-put-in_default-clause-passed g c = grind (arith, common_steps)

pub returns-in_err-put-in_default-clause-after : goal.returns-in_err-put-in_default-clause-after
returns-in_err-put-in_default-clause-after g c = grind (arith, common_steps)

pub returns-in_ok-choice-in-Some-clause-passed : goal.returns-in_ok-choice-in-Some-clause-passed
returns-in_ok-choice-in-Some-clause-passed g c = grind (arith, common_steps)

pub returns-in_ok-choice-in-Some-clause-after : goal.returns-in_ok-choice-in-Some-clause-after
returns-in_ok-choice-in-Some-clause-after g c = grind (arith, common_steps)
