-- What an assignment asks of its node.
use Rattle.thread_roles.specs.declared.assignment.Assignment.{Assignment}
use Rattle.thread_roles.specs.Going.{Asked, asked_by}

abbrev pub asked_in : {S H P : Type 0} → Assignment S H P → Asked S H
asked_in a = asked_by a.setup.now a.catalogue.now a.packets.now a.node a.ring a.paced a.commands.now
