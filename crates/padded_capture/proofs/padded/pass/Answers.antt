use Rattle.std.proofs.Common.{ℕ, ◌≤◌, ◌<◌, length, arith}
use Rattle.std.proofs.lemmas.List.{length-take}
use Rattle.padded_capture.proofs.Known.{pass_read, fewer_fit}
use Rattle.padded_capture.proofs.padded.pass.Goals as goal

pub returns-in-Ok-clause-bytes : goal.returns-in-Ok-clause-bytes
returns-in-Ok-clause-bytes g c =
    let s = c.args.stage.now in
    let few : c.in-Ok.n ≤ c.most-most.result = omega (arith, length-take {A = ℕ}, c.in-Ok.ensures.bound.0) in
    let some : 0 < length c.read.new.buf = omega (arith, length-take {A = ℕ}) in
    pass_read (g.I.Source.tape c.args.source.now).bytes (g.I.Source.tape c.read.new.self).bytes s c.pass.new.self c.most-most.result c.in-Ok.n c.args.buf.now c.read.new.buf
    c.requires.turn (fewer_fit s.form c.in-Ok.n c.most-most.result s.plain few c.most-most.ensures.fits) (omega (arith, c.in-Ok.ensures.bound.0)) some
    c.pass.ensures c.in-Ok.ensures.bytes
