use Rattle.std.proofs.Common.{rules, length, length-drop, ◌<◌, ◌+◌, ◌++◌, take, arith, sym, ap, ◌∙◌, subst, refl}
use Rattle.std.proofs.KnownBytes.{Appends-trans, Appends-kept, Appends-nil}
use lib.Seq.{take-add}
use Rattle.std.specs.Io.KnownBytes.{Appends}
use Rattle.pcap_file.proofs.Pieces.{called-more, called-none, take_rest, worn-taken, worn-more, worn-none}
use Rattle.pcap_file.proofs.exact.put_all.Goals as goal
use Rattle.pcap_file.proofs.exact.put_all.Goals.{in-Ok, in-Err-Interrupted}

pub loop-init : goal.loop-init
loop-init g c = record { at_most = omega arith; bytes = Appends-nil _; failures = refl; worn = worn-none 0 _; called = called-none _ }

pub returns-in-Err-Failed-clause-calls : goal.returns-in-Err-Failed-clause-calls
returns-in-Err-Failed-clause-calls g c = (c.loop.counter + 1, omega arith, called-more _ _ _ _ c.loop.invariant.called c.in-Err-Failed.ensures.calls)

pub loop-preserved : goal.loop-preserved
loop-preserved g c =
    elim c.match-write.branch [
      | in-Ok w ↦ (
          let joined = take-add c.loop.at w.in-Ok.n c.args.bytes.now in
          let some : 0 < w.in-Ok.n = w.in-Ok.ensures.some (omega (arith, ap length (take_rest c.loop.at c.args.bytes.now), length-drop c.loop.at c.args.bytes.now)) in
          rw w.at-is (record {
            at_most = search rules;
            bytes = subst (Appends _ _) (ap (λ l. take c.loop.at c.args.bytes.now ++ take w.in-Ok.n l) (take_rest c.loop.at c.args.bytes.now) ∙ sym joined) (Appends-trans _ _ _ _ _ c.loop.invariant.bytes w.in-Ok.ensures.bytes);
            failures = w.in-Ok.ensures.failures ∙ c.loop.invariant.failures;
            worn = worn-taken c.loop.counter (c.loop.counter + 1) c.loop.at (c.loop.at + w.in-Ok.n) _ _ _ refl (omega (arith, some)) c.loop.invariant.worn w.in-Ok.ensures.interruptions;
            called = called-more _ _ _ _ c.loop.invariant.called w.in-Ok.ensures.calls;
          }))
      | in-Err-Interrupted w ↦ rw w.at-is (record {
        at_most = search rules;
        bytes = Appends-kept _ _ _ _ c.loop.invariant.bytes w.in-Err-Interrupted.ensures.bytes;
        failures = (rw w.in-Err-Interrupted.field-0-is at w.in-Err-Interrupted.ensures.failures) ∙ c.loop.invariant.failures;
        worn = worn-more c.loop.counter (c.loop.counter + 1) c.loop.at _ _ _ refl c.loop.invariant.worn (rw w.in-Err-Interrupted.field-0-is at w.in-Err-Interrupted.ensures.interruptions);
        called = called-more _ _ _ _ c.loop.invariant.called w.in-Err-Interrupted.ensures.calls;
      })
    ]
