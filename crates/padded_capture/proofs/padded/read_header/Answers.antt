use Rattle.std.proofs.Common.{arith}
use Rattle.padded_capture.proofs.Known.{Consumes_kept, gave_known, gave_turn, header_over}
use Rattle.padded_capture.proofs.padded.read_header.Goals as goal

pub returns-in-Ok-clause-bytes : goal.returns-in-Ok-clause-bytes
returns-in-Ok-clause-bytes g c =
    let b = (g.I.Source.tape c.gather.new.source).bytes in
    let s = c.gather.new.stage in
    let n = c.give.result in (
      Consumes_kept _ _ _ _ c.in-Ok.ensures.kept
          (gave_known b s c.give.new.self _ (gave_turn s c.give.new.self n c.give.new.buf c.in-Ok.ensures.gives c.give.ensures.rest c.give.ensures.bytes)),
      λ none some. header_over b s c.give.new.self n c.in-Ok.ensures.some c.give.ensures.rest none (omega (arith, c.give.ensures.count)),
    )
