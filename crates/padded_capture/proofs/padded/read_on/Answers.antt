use Rattle.std.proofs.Common.{arith}
use Rattle.padded_capture.proofs.Known.{Consumes_kept, same_known, gave_known, gave_turn, zero_turn}
use Rattle.padded_capture.proofs.padded.read_on.Goals as goal

pub returns-in-Give-clause-bytes : goal.returns-in-Give-clause-bytes
returns-in-Give-clause-bytes g c =
    let a = (g.I.Source.tape c.args.source.now).bytes in
    let s = c.next.new.self in
    let n = c.give.result in (
      Consumes_kept _ _ _ _ (same_known a c.args.stage.now s c.next.ensures.same)
          (gave_known a s c.give.new.self _ (gave_turn s c.give.new.self n c.give.new.buf c.in-Give.ensures.turn.0 c.give.ensures.rest c.give.ensures.bytes)),
      λ none some. absurd (omega (arith, c.give.ensures.count, c.in-Give.ensures.turn.1)),
    )

pub returns-in-Zero-clause-bytes : goal.returns-in-Zero-clause-bytes
returns-in-Zero-clause-bytes g c =
    let a = (g.I.Source.tape c.args.source.now).bytes in
    let s = c.next.new.self in
    let n = c.zero.result in (
      Consumes_kept _ _ _ _ (same_known a c.args.stage.now s c.next.ensures.same)
          (gave_known a s c.zero.new.self _ (zero_turn s c.zero.new.self n c.zero.new.buf c.in-Zero.ensures.turn (omega (arith, c.zero.ensures.count)) c.zero.ensures.rest c.zero.ensures.bytes)),
      λ none some. absurd (omega (arith, c.zero.ensures.count, c.in-Zero.ensures.turn.2)),
    )
