use Rattle.std.proofs.Common.{rules, ◌+◌, ◌-◌, ◌++◌, length, take, arith, sym, ap, ◌∙◌, subst, le_refl, refl}
use Rattle.std.proofs.lemmas.Slice.{take-put_mid_below}
use Rattle.std.specs.Io.KnownBytes.{Consumes}
use Rattle.std.proofs.KnownBytes.{Consumes-trans, Consumes-kept, Consumes-nil}
use borrow.Rule.Slice.PartMut.{put_mid}
use Rattle.pcap_file.proofs.Pieces.{take_split, slice_range-put_mid, called-more, called-none, worn-taken, worn-more, worn-none}
use Rattle.pcap_file.proofs.exact.fill.Goals as goal
use Rattle.pcap_file.proofs.exact.fill.Goals.{in-Ok, in-Err-Interrupted}

pub loop-init : goal.loop-init
loop-init g c = record { len = refl; at_most = omega arith; bytes = Consumes-nil _; failures = refl; worn = worn-none 0 _; called = called-none _ }

pub returns-in-Ok-eq0-clause-calls : goal.returns-in-Ok-eq0-clause-calls
returns-in-Ok-eq0-clause-calls g c = (c.loop.counter + 1, omega arith, called-more _ _ _ _ c.loop.invariant.called c.in-Ok-eq0.ensures.calls)

pub returns-in-Err-Failed-clause-calls : goal.returns-in-Err-Failed-clause-calls
returns-in-Err-Failed-clause-calls g c = (c.loop.counter + 1, omega arith, called-more _ _ _ _ c.loop.invariant.called c.in-Err-Failed.ensures.calls)

pub loop-preserved : goal.loop-preserved
loop-preserved g c =
    elim c.match-read.branch [
      | in-Ok w ↦ (
          let from = c.loop.at in
          let room = length c.loop.buf - from in
          let within = c.loop.invariant.at_most in
          let part = slice_range-put_mid from room w.in-Ok.n c.loop.buf c.read.new.buf within w.in-Ok.ensures.bound.0 in
          let joined = take_split from (from + w.in-Ok.n) c.loop.buf (put_mid from room c.loop.buf c.read.new.buf) (omega arith) (take-put_mid_below _ _ _ _ _ (le_refl _) within) in
          rw w.at-is (record {
            len = search rules;
            at_most = search rules;
            bytes = subst (Consumes _ _) (ap (λ l. take from c.loop.buf ++ l) (sym part) ∙ joined) (Consumes-trans _ _ _ _ _ c.loop.invariant.bytes w.in-Ok.ensures.bytes.0);
            failures = w.in-Ok.ensures.failures ∙ c.loop.invariant.failures;
            worn = worn-taken c.loop.counter (c.loop.counter + 1) from (from + w.in-Ok.n) _ _ _ refl (omega arith) c.loop.invariant.worn w.in-Ok.ensures.interruptions;
            called = called-more _ _ _ _ c.loop.invariant.called w.in-Ok.ensures.calls;
          }))
      | in-Err-Interrupted w ↦ rw w.at-is (record {
        len = search rules;
        at_most = search rules;
        bytes = subst (Consumes _ _) (sym (take-put_mid_below _ _ _ _ _ (le_refl _) c.loop.invariant.at_most)) (Consumes-kept _ _ _ _ c.loop.invariant.bytes w.in-Err-Interrupted.ensures.bytes);
        failures = (rw w.in-Err-Interrupted.field-0-is at w.in-Err-Interrupted.ensures.failures) ∙ c.loop.invariant.failures;
        worn = worn-more c.loop.counter (c.loop.counter + 1) c.loop.at _ _ _ refl c.loop.invariant.worn (rw w.in-Err-Interrupted.field-0-is at w.in-Err-Interrupted.ensures.interruptions);
        called = called-more _ _ _ _ c.loop.invariant.called w.in-Err-Interrupted.ensures.calls;
      })
    ]
