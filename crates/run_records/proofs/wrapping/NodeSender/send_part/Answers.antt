use Rattle.std.proofs.lemmas.List.Elements.{All-from_get_or}
use Rattle.run_records.specs.declared.wrapping.Wrapped.{Wrapped}
use Rattle.run_records.specs.Traffic.{IsWrapped}
use Rattle.run_records.proofs.wrapping.NodeSender.send_part.Goals as goal

pub put_parts-requires : goal.put_parts-requires
put_parts-requires g c =
    let any : Wrapped = record { start = 0; count = 0; text = c.args.wrapping.now.room } in
    All-from_get_or (λ w. IsWrapped c.args.self.now c.args.numbers.now w) c.in-Ok.parts.items any (λ i lt. (c.in-Ok.ensures.each i any lt).1.call)
