use Rattle.std.proofs.Common.{get_or, map, arith, ◌∙◌, sym}
use Rattle.std.proofs.lemmas.List.{get_or-map, length-map, ext_get_or}
use Rattle.maglev_ffi.proofs.filling.write.Goals as goal

pub returns : goal.returns
returns c =
    let len = length-map c.args.table.now.owners (λ who. get_or c.args.places.now who 0) in
    ext_get_or 0 c.loop-slot.slots (map (λ who. get_or c.args.places.now who 0) c.args.table.now.owners) (omega arith)
    (λ i l. c.loop-slot.invariant.written i (omega arith) ∙ sym (get_or-map (λ who. get_or c.args.places.now who 0) c.args.table.now.owners i 0 0 (omega arith)))
