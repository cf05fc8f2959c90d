use Rattle.std.proofs.Common.{arith}
use Rattle.driver_commands.proofs.Telling.{pushed_at}
use Rattle.driver_commands.proofs.drivers.push.Goals as goal

pub returns-in_ok-push : goal.returns-in_ok-push
returns-in_ok-push c = pushed_at (λ v. v.items) c.args.commands.now.items c.args.node c.index_mut-own.result.now c.push.new.self c.args.command (omega arith) c.index_mut-own.ensures.value c.in_ok-push.ensures.items
