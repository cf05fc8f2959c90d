use Rattle.std.specs.Prelude.{slice_get}
use Rattle.thread_records.proofs.Writing.{on_ok}
use Rattle.thread_records.proofs.Drives.{commands_arrive}
use Rattle.thread_records.proofs.Losses.{arrived_loses_none}
use Rattle.thread_records.proofs.journal.Journal.arrive.Goals as goal

pub returns-clause-command : goal.returns-clause-command
returns-clause-command g c = on_ok c.write_arrival.result (λ w. commands_arrive c.args.self.now.events c.write_arrival.new.self.events c.args.self.now.node c.args.packet w) c.write_arrival.ensures.event

pub returns-clause-lost : goal.returns-clause-lost
returns-clause-lost g c = arrived_loses_none c.write_arrival.result (slice_get c.args.packets.now c.args.packet) c.args.self.now.outcomes c.write_arrival.new.self.outcomes c.write_arrival.ensures.told c.write_arrival.ensures.arrives
