use Rattle.std.proofs.Common.{◌≡◌, ◌<◌, ◌≤◌, ◌+◌, ℕ, refl, subst, length, take, arith, sym, ap, ◌∙◌, take_all, length-take-le, inr}
use Rattle.pcap_file.specs.Format.{captured_len, micros_of, number_in}
use Rattle.std.proofs.lemmas.List.{with_items_is}
use Rattle.pcap_file.proofs.Records.{gave-frame, gave-cut, gave-too-long, gave-memory, captures, calls-both, packet-same, refused_by}
use Rattle.pcap_file.specs.Device.{CallsAtMost}
use Rattle.pcap_file.proofs.record.read_onto.Goals as goal

pub returns-in-Ok-fill-clause-gave : goal.returns-in-Ok-fill-clause-gave
returns-in-Ok-fill-clause-gave g c =
    let len : length c.fill-2.new.buf ≡ c.u32_at-captured.result = omega (arith, c.in-Ok-make_long.ensures.long, ap length c.deref_mut.ensures.value) in
    let few : c.in-Ok-fill.n < length c.fill-2.new.buf = omega (arith, c.in-Ok-make_long.ensures.long) in
    let h = take_all c.in-Ok.n c.fill.new.buf (omega arith) in
    let captured = ap (captured_len c.args.head) h ∙ sym c.u32_at-captured.ensures in
    gave-cut c.args.head c.args.given _ _ _ (take c.in-Ok.n c.fill.new.buf) (take c.in-Ok-fill.n c.fill-2.new.buf) c.in-Ok.ensures.bytes c.in-Ok-fill.ensures.bytes (c.in-Ok-fill.ensures.end few)
    (omega (arith, ap length h)) (omega (arith, captured, length-take-le c.in-Ok-fill.n c.fill-2.new.buf (omega arith))) (omega arith) (omega (arith, captured))

pub returns-in-Ok-2-clause-gave : goal.returns-in-Ok-2-clause-gave
returns-in-Ok-2-clause-gave g c =
    let len : length c.fill-2.new.buf ≡ c.u32_at-captured.result = omega (arith, c.in-Ok-make_long.ensures.long, ap length c.deref_mut.ensures.value) in
    let all : length c.fill-2.new.buf ≤ c.in-Ok-fill.n = omega (arith, c.in-Ok-make_long.ensures.long) in
    let h = take_all c.in-Ok.n c.fill.new.buf (omega arith) in
    let d = take_all c.in-Ok-fill.n c.fill-2.new.buf all in
    let captured = ap (captured_len c.args.head) h ∙ sym c.u32_at-captured.ensures in
    let secs = c.u32_at.ensures ∙ ap (number_in c.args.head.order 0 4) (sym h) in
    let micros = c.micros.ensures ∙ ap (micros_of c.args.head.fraction) (c.u32_at-in-Ok-2.ensures ∙ ap (number_in c.args.head.order 4 4) (sym h)) in
    let original = c.u32_at-in-Ok-2-2.ensures ∙ ap (number_in c.args.head.order 12 4) (sym h) in
    let items = with_items_is c.make_long.new.bytes c.fill-2.new.buf (omega (arith, ap length c.deref_mut.ensures.value)) in
    gave-frame c.args.head c.args.given _ _ _ (take c.in-Ok.n c.fill.new.buf) (take c.in-Ok-fill.n c.fill-2.new.buf) _ c.in-Ok.ensures.bytes c.in-Ok-fill.ensures.bytes
    (omega (arith, ap length h)) (omega (arith, captured, ap length d)) (omega arith) (omega (arith, captured))
    (packet-same _ _ _ _ _ _ _ _ secs micros original (items ∙ sym d))

pub returns-in-Err-clause-cause : goal.returns-in-Err-clause-cause
returns-in-Err-clause-cause g c =
    let len : length c.deref_mut.result.now ≡ c.u32_at-captured.result = omega (arith, c.in-Ok-make_long.ensures.long, ap length c.deref_mut.ensures.value) in
    let h = take_all c.in-Ok.n c.fill.new.buf (omega arith) in
    let captured = ap (captured_len c.args.head) h ∙ sym c.u32_at-captured.ensures in
    inr (record {
      captured = length c.deref_mut.result.now;
      between = g.S.Source.tape c.fill.new.source;
      captures = captures c.args.head _ _ (take c.in-Ok.n c.fill.new.buf) (length c.deref_mut.result.now) c.in-Ok.ensures.bytes (omega (arith, ap length h)) (captured ∙ sym len) (omega (arith, len));
      front = (take c.in-Ok.n c.fill.new.buf, omega (arith, ap length h), c.in-Ok.ensures.bytes);
      unfailed = c.in-Ok.ensures.unfailed;
      within = c.in-Ok.ensures.calls;
      refused = c.in-Err.ensures.refused;
    })

pub returns-then-given-ge-MAX_RECORDS-clause-gave : goal.returns-then-given-ge-MAX_RECORDS-clause-gave
returns-then-given-ge-MAX_RECORDS-clause-gave g c =
    let h = take_all c.in-Ok.n c.fill.new.buf (omega arith) in
    let captured = ap (captured_len c.args.head) h ∙ sym c.u32_at-captured.ensures in
    gave-too-long c.args.head c.args.given _ _ (take c.in-Ok.n c.fill.new.buf) c.in-Ok.ensures.bytes (omega (arith, ap length h)) (refused_by _ _ _ captured c.then-given-ge-MAX_RECORDS.either)

pub returns-in_default-make_long-clause-gave : goal.returns-in_default-make_long-clause-gave
returns-in_default-make_long-clause-gave g c =
    let h = take_all c.in-Ok.n c.fill.new.buf (omega arith) in
    gave-memory c.args.head c.args.given _ _ (take c.in-Ok.n c.fill.new.buf) c.in-Ok.ensures.bytes (omega (arith, ap length h))

pub returns-in_default-make_long-clause-memory : goal.returns-in_default-make_long-clause-memory
returns-in_default-make_long-clause-memory g c =
    let h = take_all c.in-Ok.n c.fill.new.buf (omega arith) in
    let captured = ap (captured_len c.args.head) h ∙ sym c.u32_at-captured.ensures in
    (c.u32_at-captured.result, captures c.args.head _ _ (take c.in-Ok.n c.fill.new.buf) c.u32_at-captured.result c.in-Ok.ensures.bytes (omega (arith, ap length h)) captured (omega arith), c.in_default-make_long.ensures.full)

pub returns-in-Ok-fill-clause-calls : goal.returns-in-Ok-fill-clause-calls
returns-in-Ok-fill-clause-calls g c =
    let len : length c.deref_mut.result.now ≡ c.u32_at-captured.result = omega (arith, c.in-Ok-make_long.ensures.long, ap length c.deref_mut.ensures.value) in
    let h = take_all c.in-Ok.n c.fill.new.buf (omega arith) in
    let captured = ap (captured_len c.args.head) h ∙ sym c.u32_at-captured.ensures in
    inr (
      length c.deref_mut.result.now,
      captures c.args.head _ _ (take c.in-Ok.n c.fill.new.buf) (length c.deref_mut.result.now) c.in-Ok.ensures.bytes (omega (arith, ap length h)) (captured ∙ sym len) (omega (arith, len)),
      calls-both 16 (length c.deref_mut.result.now) (g.S.Source.tape c.args.source.now) (g.S.Source.tape c.fill.new.source) (g.S.Source.tape c.fill-2.new.source) refl c.in-Ok.ensures.calls c.in-Ok-fill.ensures.calls,
    )

pub returns-in-Ok-2-clause-calls : goal.returns-in-Ok-2-clause-calls
returns-in-Ok-2-clause-calls g c =
    let items = with_items_is c.make_long.new.bytes c.fill-2.new.buf (omega (arith, ap length c.deref_mut.ensures.value)) in
    let len : length c.deref_mut.result.now ≡ length c.fill-2.new.buf = omega arith in
    let P : ℕ → Type 0 = λ n. CallsAtMost (n + 2016) (g.S.Source.tape c.args.source.now) (g.S.Source.tape c.fill-2.new.source) in
    subst P (len ∙ ap length (sym items)) (calls-both 16 (length c.deref_mut.result.now) (g.S.Source.tape c.args.source.now) (g.S.Source.tape c.fill.new.source) (g.S.Source.tape c.fill-2.new.source) refl c.in-Ok.ensures.calls c.in-Ok-2.ensures.calls)

pub returns-in-Err-clause-calls : goal.returns-in-Err-clause-calls
returns-in-Err-clause-calls g c =
    let len : length c.deref_mut.result.now ≡ c.u32_at-captured.result = omega (arith, c.in-Ok-make_long.ensures.long, ap length c.deref_mut.ensures.value) in
    let h = take_all c.in-Ok.n c.fill.new.buf (omega arith) in
    let captured = ap (captured_len c.args.head) h ∙ sym c.u32_at-captured.ensures in
    inr (
      length c.deref_mut.result.now,
      captures c.args.head _ _ (take c.in-Ok.n c.fill.new.buf) (length c.deref_mut.result.now) c.in-Ok.ensures.bytes (omega (arith, ap length h)) (captured ∙ sym len) (omega (arith, len)),
      calls-both 16 (length c.deref_mut.result.now) (g.S.Source.tape c.args.source.now) (g.S.Source.tape c.fill.new.source) (g.S.Source.tape c.fill-2.new.source) refl c.in-Ok.ensures.calls c.in-Err.ensures.calls,
    )
