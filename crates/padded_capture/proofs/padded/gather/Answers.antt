use Rattle.std.proofs.Common.{arith, sym, subst, take, ℕ}
use Rattle.std.proofs.lemmas.List.{length-take}
use Rattle.std.specs.Io.KnownBytes.{Consumes}
use Rattle.padded_capture.proofs.Known.{header_kept, header_more, front_read}
use Rattle.padded_capture.proofs.padded.gather.Goals as goal

pub returns-then-n-eq0-clause-kept : goal.returns-then-n-eq0-clause-kept
returns-then-n-eq0-clause-kept g c =
    let a = (g.I.Source.tape c.args.source.now).bytes in
    let b = (g.I.Source.tape c.read.new.self).bytes in
    header_kept a b c.args.stage.now c.end.new.self c.requires c.end.ensures
    (subst (λ (n : ℕ). Consumes a b (take n c.read.new.buf)) c.if-n-eq0.true c.in-Ok.ensures.bytes.0)
    (c.in-Ok.ensures.bytes.1 c.if-n-eq0.true (omega (arith, length-take {A = ℕ}, c.requires.1)))

pub returns-in-Give-clause-kept : goal.returns-in-Give-clause-kept
returns-in-Give-clause-kept g c =
    let a = (g.I.Source.tape c.args.source.now).bytes in
    let b = (g.I.Source.tape c.read.new.self).bytes in
    header_more a b c.args.stage.now c.keep.new.self c.next.new.self _ c.requires.0 c.keep.ensures c.next.ensures.same
    (subst (Consumes a b) (sym (front_read c.missing-missing.result c.in-Ok.n _ c.read.new.buf (omega (arith, c.in-Ok.ensures.bound.0)))) c.in-Ok.ensures.bytes.0)

pub returns-in_default : goal.returns-in_default
returns-in_default g c =
    let a = (g.I.Source.tape c.args.source.now).bytes in
    let b = (g.I.Source.tape c.read.new.self).bytes in
    record {
      kept = header_more a b c.args.stage.now c.keep.new.self c.next.new.self _ c.requires.0 c.keep.ensures c.next.ensures.same
          (subst (Consumes a b) (sym (front_read c.missing-missing.result c.in-Ok.n _ c.read.new.buf (omega (arith, c.in-Ok.ensures.bound.0)))) c.in-Ok.ensures.bytes.0);
      gives = tt;
      some = tt;
    }
