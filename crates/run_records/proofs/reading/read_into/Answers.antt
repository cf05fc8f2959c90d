use Rattle.std.proofs.Common.{◌∙◌, ◌+◌, sym, arith}
use Rattle.std.proofs.lemmas.List.{length-set}
use Rattle.simulation.specs.Sent.{packets_of}
use Rattle.simulation.specs.Wires.{lent_record}
use Rattle.run_records.proofs.Walks.{packet_there}
use Rattle.run_records.proofs.Chunks.{one_more}
use Rattle.run_records.proofs.reading.read_into.Goals as goal

pub loop-at-preserved : goal.loop-at-preserved
loop-at-preserved c = record {
  many = length-set c.loop-at.packets c.loop-at.at c.packet.result ∙ c.loop-at.invariant.many;
  each = one_more c.args.from c.loop-at.at c.packet.result c.loop-at.packets (packets_of c.args.wire.now.link c.args.wire.now.check c.args.records.now) (omega arith)
      (λ d. packet_there c.args.wire.now.link c.args.wire.now.check c.args.records.now (c.args.from + c.loop-at.at) (lent_record c.at.result) d c.at.ensures ∙ sym c.packet.ensures)
      c.loop-at.invariant.each;
}
