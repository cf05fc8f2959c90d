use Rattle.std.proofs.Common.{map, arith}
use Rattle.driver_commands.proofs.Telling.{history_more}
use Rattle.driver_commands.proofs.drivers.tell_all.Goals as goal

pub loop-said-preserved : goal.loop-said-preserved
loop-said-preserved c = λ nodes es before.
    history_more nodes es c.args.events.now c.loop-said.said-index c.said-item.result (map (λ v. v.items) c.loop-said.commands.items) (map (λ v. v.items) c.tell.new.commands.items)
    (omega arith) c.said-item.is (c.loop-said.invariant nodes es before) c.in_ok-tell.ensures
