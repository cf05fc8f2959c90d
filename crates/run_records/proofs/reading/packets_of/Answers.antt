use Rattle.std.proofs.Common.{◌≡◌, List, length, ap, sym, ◌∙◌, subst, arith, take_at}
use Rattle.std.proofs.lemmas.List.{length-map}
use Rattle.cluster_node.specs.declared.packets.Packet.{Packet}
use Rattle.cluster_core.specs.Cluster.{WereRead}
use Rattle.simulation.specs.Sent.{packet_in, packets_of}
use Rattle.run_records.proofs.Walks.{all_read}
use Rattle.run_records.proofs.reading.packets_of.Goals as goal

pub returns-clause-packets : goal.returns-clause-packets
returns-clause-packets g c =
    let read = packets_of c.args.wire.now.link c.args.wire.now.check c.args.records.now in
    let long : length c.read_all.new.packets ≡ length read = ap (λ (l : List Packet). length l) c.read_all.ensures in
    let many = length-map c.args.records.now (packet_in c.args.wire.now.link c.args.wire.now.check) in
    take_at c.read_all.new.packets _ c.in_ok-packets.packets.len (omega (arith, long, many, c.len.ensures, c.in_ok-packets.ensures.len)) ∙ c.read_all.ensures

pub returns-clause-read : goal.returns-clause-read
returns-clause-read g c = subst (λ (l : List Packet). WereRead l) (sym (returns-clause-packets g c)) (all_read c.args.wire.now.link c.args.wire.now.check c.args.records.now)
