use Rattle.std.proofs.Common.{arith}
use Rattle.table_commands.proofs.Entrants.{many_names}
use Rattle.table_commands.proofs.names.names_for.Goals as goal

pub returns-then-len-slots-clause-fault : goal.returns-then-len-slots-clause-fault
returns-then-len-slots-clause-fault c =
    let many = many_names _ _ c.in_ok-entrants.ensures.order in
    let len = c.len.ensures in
    (c.in_ok-entrants.ensures.names, omega arith)

pub returns-clause-few : goal.returns-clause-few
returns-clause-few c =
    let many = many_names _ _ c.in_ok-entrants.ensures.order in
    let len = c.len.ensures in
    (c.in_ok-entrants.ensures.names, omega (arith, c.if-len-slots.false))
