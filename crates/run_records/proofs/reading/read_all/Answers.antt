use Rattle.std.proofs.Common.{◌≡◌, length, arith}
use Rattle.std.proofs.lemmas.List.{length-map, ext_get_or}
use Rattle.cluster_node.specs.declared.packets.Packet.TheVariants.{Bad}
use Rattle.cluster_node.specs.declared.outcomes.Cause.TheVariants.{NotIpv4}
use Rattle.simulation.specs.Sent.{packet_in, packets_of}
use Rattle.run_records.proofs.Chunks.{left_there}
use Rattle.run_records.proofs.reading.read_all.Goals as goal

pub returns : goal.returns
returns g c =
    let link = c.args.wire.now.link in
    let check = c.args.wire.now.check in
    let rs = c.args.records.now in
    let same : length c.for_each_chunk_mut.new.s ≡ length c.args.packets.now = c.for_each_chunk_mut.auto.s in
    let many = length-map rs (packet_in link check) in
    ext_get_or (Bad NotIpv4) c.for_each_chunk_mut.new.s (packets_of link check rs) (omega (arith, same, many, c.requires))
    (λ i lt. let k = (c.for_each_chunk_mut.ensures.by_index i (Bad NotIpv4) (omega (arith, same, lt))).1 in
    left_there k.after_call.now c.for_each_chunk_mut.new.s (packets_of link check rs) k.start k.offset i (Bad NotIpv4) k.start_plus_offset k.new_element
    (k.call k.offset (Bad NotIpv4) k.offset_in_chunk))
