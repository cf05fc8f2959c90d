use Rattle.std.proofs.Common.{◌≡◌, ◌∙◌, ◌∷◌, ◌++◌, [], ◌+◌, ℕ, List, length, ap, sym, subst, arith, length-append, inl, Err, true}
use Rattle.std.specs.Fn.{FnReturnsAt}
use Rattle.pcap_file.specs.declared.format.InputEnd.TheVariants as ends
use Rattle.pcap_file.specs.declared.format.Ending.TheVariants.{Failed}
use Rattle.pcap_file.specs.Device.{CallsAtMost}
use Rattle.pcap_file.specs.Reading.{Gave}
use Rattle.pcap_file.specs.Format.{packet, Record}
use Rattle.pcap_file.specs.Text.{Passed, calls_for}
use Rattle.pcap_file.proofs.Records.{calls-next}
use Rattle.pcap_file.proofs.Texts.{passed-push, passed-stop, calls_for-push}
use Rattle.run_records.specs.Firsts.{Sparing, IsBounded}
use Rattle.run_records.proofs.Sparings.{bounded_more, bounded_stopped}
use Rattle.run_records.proofs.Stores.{refused_behind}
use Rattle.run_records.proofs.reading.read_records.Goals as goal

pub loop-records-preserved : goal.loop-records-preserved
loop-records-preserved g c =
    let next = packet c.read_record_into.new.frame in
    let whole = c.in-Ok-push.ensures.ok in
    let pushed : c.ask.new.self.all ≡ c.loop-records.records.all ++ next ∷ [] = c.ask.ensures.all ∙ ap (λ (f : Sparing). f.all) whole in
    let old = c.loop-records.invariant in
    let before = c.loop-records.records.all in
    let Settle : List Record → Type 0 = λ rs. FnReturnsAt g.F.Fn c.args.enough.now rs true in
    let more : IsBounded Settle c.args.limit c.push.new.self =
    subst (λ (f : Sparing). IsBounded Settle c.args.limit f) (sym whole) (bounded_more Settle c.args.limit c.loop-records.records next old.bounded) in
    let len : length c.ask.new.self.all ≡ length before + 1 = ap (λ (l : List Record). length l) pushed ∙ length-append before (next ∷ []) in
    let Now : List Record → Type 0 = λ ps. Passed c.args.head (g.I.Source.tape c.args.input.now).bytes ps (g.I.Source.tape c.read_record_into.new.source).bytes in
    let Calls : ℕ → Type 0 = λ n. CallsAtMost n (g.I.Source.tape c.args.input.now) (g.I.Source.tape c.read_record_into.new.source) in
    record {
      bounded = bounded_stopped Settle c.args.limit c.push.new.self c.ask.new.self c.ask.ensures.asked more;
      few = omega (arith, c.in-Ok.ensures.room, len, old.given);
      given = omega (arith, len, old.given);
      passed = subst Now (sym pushed) (passed-push c.args.head c.loop-records.given (g.I.Source.tape c.args.input.now).bytes (g.I.Source.tape c.loop-records.input).bytes (g.I.Source.tape c.read_record_into.new.source).bytes before next old.given old.passed c.in-Ok.ensures.gave);
      unfailed = (c.in-Ok.ensures.cause.0 ∙ old.unfailed.0, omega (arith, c.in-Ok.ensures.cause.1, old.unfailed.1));
      called = subst Calls (sym (ap calls_for pushed ∙ calls_for-push before next)) (calls-next (calls_for before) _ (g.I.Source.tape c.args.input.now) (g.I.Source.tape c.loop-records.input) (g.I.Source.tape c.read_record_into.new.source) old.called c.in-Ok.ensures.calls);
    }

pub returns-in_default-clause-refused : goal.returns-in_default-clause-refused
returns-in_default-clause-refused g c =
    let old = c.loop-records.invariant in
    refused_behind c.args.head c.loop-records.given (g.I.Source.tape c.args.input.now) (g.I.Source.tape c.loop-records.input) (g.I.Source.tape c.read_record_into.new.source) c.loop-records.records.all (packet c.read_record_into.new.frame)
    old.given old.passed old.unfailed c.in-Ok.ensures.cause c.in-Ok.ensures.gave

pub returns-in-Err-End-clause-told : goal.returns-in-Err-End-clause-told
returns-in-Err-End-clause-told g c =
    let old = c.loop-records.invariant in
    let gave = rw c.in-Err-End.field-0-is at c.in-Err-End.ensures.gave in
    passed-stop c.args.head c.loop-records.given (g.I.Source.tape c.args.input.now).bytes (g.I.Source.tape c.loop-records.input).bytes (g.I.Source.tape c.read_record_into.new.source).bytes c.loop-records.records.all ends.End old.given old.passed gave

pub returns-in-Err-Cut-clause-told : goal.returns-in-Err-Cut-clause-told
returns-in-Err-Cut-clause-told g c =
    let old = c.loop-records.invariant in
    let gave = rw c.in-Err-Cut.field-0-is at c.in-Err-Cut.ensures.gave in
    passed-stop c.args.head c.loop-records.given (g.I.Source.tape c.args.input.now).bytes (g.I.Source.tape c.loop-records.input).bytes (g.I.Source.tape c.read_record_into.new.source).bytes c.loop-records.records.all ends.Cut old.given old.passed gave

pub returns-in-Err-Failed-clause-refused : goal.returns-in-Err-Failed-clause-refused
returns-in-Err-Failed-clause-refused g c =
    let old = c.loop-records.invariant in
    let gave = rw c.in-Err-Failed.field-0-is at c.in-Err-Failed.ensures.gave in
    let cause = rw c.in-Err-Failed.field-0-is at c.in-Err-Failed.ensures.cause in
    rw c.in-Err-Failed.field-0-is (inl (
      c.loop-records.records.all,
      record {
        at = g.I.Source.tape c.loop-records.input;
        passed = old.passed;
        unfailed = old.unfailed;
        calls = old.called;
        gave = subst (λ (n : ℕ). Gave c.args.head n (g.I.Source.tape c.loop-records.input).bytes (g.I.Source.tape c.read_record_into.new.source).bytes (Err (Failed c.in-Err-Failed.fault))) old.given gave;
        cause = cause;
      },
    ))
