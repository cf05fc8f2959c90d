use Rattle.std.proofs.Common.{◌≡◌, ◌∙◌, ◌++◌, ◌∷◌, [], ◌+◌, ℕ, map, List, length, ap, sym, subst, arith, length-append, inl, inr, refl, Err}
use Rattle.std.proofs.lemmas.List.{map_push}
use Rattle.pcap_file.specs.declared.format.InputEnd.TheVariants as ends
use Rattle.pcap_file.specs.declared.format.Ending.TheVariants.{Failed}
use Rattle.pcap_file.specs.Device.{CallsAtMost}
use Rattle.pcap_file.specs.Reading.{Gave}
use Rattle.pcap_file.specs.Format.{packet, Record}
use Rattle.pcap_file.specs.Text.{Passed, calls_for}
use Rattle.pcap_file.proofs.Records.{calls-next}
use Rattle.pcap_file.proofs.Texts.{passed-push, passed-stop, calls_for-push}
use Rattle.pcap_file.proofs.reading.read_records.Goals as goal

pub loop-frame-preserved : goal.loop-frame-preserved
loop-frame-preserved g c =
    let frame = c.in-Ok.frame in
    let items = c.in-Ok-push.ensures.items in
    let old = c.loop-frame.invariant in
    let before = map packet c.loop-frame.frames.items in
    let pushed : map packet c.push.new.self.items ≡ before ++ packet frame ∷ [] = rw items (map_push packet c.loop-frame.frames.items frame) in
    let len : length (map packet c.push.new.self.items) ≡ length before + 1 = ap length pushed ∙ length-append before (packet frame ∷ []) in
    let Now : List Record → Type 0 = λ ps. Passed c.args.head (g.S.Source.tape c.args.source.now).bytes ps (g.S.Source.tape c.read_record.new.source).bytes in
    let Calls : ℕ → Type 0 = λ n. CallsAtMost n (g.S.Source.tape c.args.source.now) (g.S.Source.tape c.read_record.new.source) in
    record {
      few = omega (arith, c.in-Ok.ensures.room, len, old.given);
      given = omega (arith, len, old.given);
      unfailed = (c.in-Ok.ensures.cause.0 ∙ old.unfailed.0, omega (arith, c.in-Ok.ensures.cause.1, old.unfailed.1));
      called = subst Calls (sym (ap calls_for pushed ∙ calls_for-push before (packet frame))) (calls-next (calls_for before) _ (g.S.Source.tape c.args.source.now) (g.S.Source.tape c.loop-frame.source) (g.S.Source.tape c.read_record.new.source) old.called c.in-Ok.ensures.calls);
      records = subst Now (sym pushed) (passed-push c.args.head c.loop-frame.given (g.S.Source.tape c.args.source.now).bytes (g.S.Source.tape c.loop-frame.source).bytes (g.S.Source.tape c.read_record.new.source).bytes before (packet frame) old.given old.records c.in-Ok.ensures.gave);
    }

pub returns-in_default-clause-refused : goal.returns-in_default-clause-refused
returns-in_default-clause-refused g c =
    let old = c.loop-frame.invariant in
    let before = map packet c.loop-frame.frames.items in
    inr (
      refl,
      (c.in-Ok.ensures.cause.0 ∙ old.unfailed.0, omega (arith, c.in-Ok.ensures.cause.1, old.unfailed.1)),
      (
        before ++ packet c.in-Ok.frame ∷ [],
        passed-push c.args.head c.loop-frame.given (g.S.Source.tape c.args.source.now).bytes (g.S.Source.tape c.loop-frame.source).bytes (g.S.Source.tape c.read_record.new.source).bytes before (packet c.in-Ok.frame) old.given old.records c.in-Ok.ensures.gave,
      ),
    )

pub returns-in-Err-End-clause-told : goal.returns-in-Err-End-clause-told
returns-in-Err-End-clause-told g c =
    let old = c.loop-frame.invariant in
    let gave = rw c.in-Err-End.field-0-is at c.in-Err-End.ensures.gave in
    passed-stop c.args.head c.loop-frame.given (g.S.Source.tape c.args.source.now).bytes (g.S.Source.tape c.loop-frame.source).bytes (g.S.Source.tape c.read_record.new.source).bytes (map packet c.loop-frame.frames.items) ends.End old.given old.records gave

pub returns-in-Err-Cut-clause-told : goal.returns-in-Err-Cut-clause-told
returns-in-Err-Cut-clause-told g c =
    let old = c.loop-frame.invariant in
    let gave = rw c.in-Err-Cut.field-0-is at c.in-Err-Cut.ensures.gave in
    passed-stop c.args.head c.loop-frame.given (g.S.Source.tape c.args.source.now).bytes (g.S.Source.tape c.loop-frame.source).bytes (g.S.Source.tape c.read_record.new.source).bytes (map packet c.loop-frame.frames.items) ends.Cut old.given old.records gave

pub returns-in-Err-Failed-clause-refused : goal.returns-in-Err-Failed-clause-refused
returns-in-Err-Failed-clause-refused g c =
    let old = c.loop-frame.invariant in
    let before = map packet c.loop-frame.frames.items in
    let gave = rw c.in-Err-Failed.field-0-is at c.in-Err-Failed.ensures.gave in
    let cause = rw c.in-Err-Failed.field-0-is at c.in-Err-Failed.ensures.cause in
    rw c.in-Err-Failed.field-0-is (inl (
      before,
      record {
        at = g.S.Source.tape c.loop-frame.source;
        passed = old.records;
        unfailed = old.unfailed;
        calls = old.called;
        gave = subst (λ (n : ℕ). Gave c.args.head n (g.S.Source.tape c.loop-frame.source).bytes (g.S.Source.tape c.read_record.new.source).bytes (Err (Failed c.in-Err-Failed.fault))) old.given gave;
        cause = cause;
      },
    ))
