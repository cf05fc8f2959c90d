use Rattle.std.proofs.Common.{◌≡◌, ◌++◌, ◌∷◌, [], List, ℕ, codes, refl, sym, ap, ◌∙◌}
use Rattle.command_faults.specs.Faults.{fault_name, fault_line, number_text}
use Rattle.command_faults.proofs.Breaking.{breaks_at, nothing_yet, one_more, at_word, at_number, at_end}
use Rattle.command_faults.proofs.finishing.write_fault.Goals as goal

pub returns-in-Err-clause-broken : goal.returns-in-Err-clause-broken
returns-in-Err-clause-broken g c =
    breaks_at (fault_line c.args.fault.now) [] (codes "fault: ") (fault_name c.args.fault.now ++ 10 ∷ []) (g.S.Sink.tape c.args.err.now) (g.S.Sink.tape c.args.err.now) (g.S.Sink.tape c.put_all.new.sink)
    refl (nothing_yet (g.S.Sink.tape c.args.err.now)) c.in-Err.ensures.refused

pub returns-in-Err-put_all-clause-broken : goal.returns-in-Err-put_all-clause-broken
returns-in-Err-put_all-clause-broken g c =
    let word = c.as_bytes.result.now in
    let number = number_text c.args.fault.now in
    let named : fault_name c.args.fault.now ≡ word ++ number = c.word_of.ensures ∙ ap (λ (l : List ℕ). l ++ number) (sym c.as_bytes.ensures.value) in
    breaks_at (fault_line c.args.fault.now) (codes "fault: ") word (number ++ 10 ∷ []) (g.S.Sink.tape c.args.err.now) (g.S.Sink.tape c.put_all.new.sink) (g.S.Sink.tape c.put_all-2.new.sink)
    (at_word (codes "fault: ") (fault_name c.args.fault.now) word number (10 ∷ []) named) (c.in-Ok.ensures.bytes, c.in-Ok.ensures.unfailed) c.in-Err-put_all.ensures.refused

pub returns-in-Err-write_number-clause-broken : goal.returns-in-Err-write_number-clause-broken
returns-in-Err-write_number-clause-broken g c =
    let word = c.as_bytes.result.now in
    let number = number_text c.args.fault.now in
    let named : fault_name c.args.fault.now ≡ word ++ number = c.word_of.ensures ∙ ap (λ (l : List ℕ). l ++ number) (sym c.as_bytes.ensures.value) in
    breaks_at (fault_line c.args.fault.now) (codes "fault: " ++ word) number (10 ∷ []) (g.S.Sink.tape c.args.err.now) (g.S.Sink.tape c.put_all-2.new.sink) (g.S.Sink.tape c.write_number.new.err)
    (at_number (codes "fault: ") (fault_name c.args.fault.now) word number (10 ∷ []) named)
    (one_more (g.S.Sink.tape c.args.err.now) (g.S.Sink.tape c.put_all.new.sink) (g.S.Sink.tape c.put_all-2.new.sink) (codes "fault: ") word (c.in-Ok.ensures.bytes, c.in-Ok.ensures.unfailed) (c.in-Ok-put_all.ensures.bytes, c.in-Ok-put_all.ensures.unfailed))
    c.in-Err-write_number.ensures.refused

pub returns-in-Err-put_all-2-clause-broken : goal.returns-in-Err-put_all-2-clause-broken
returns-in-Err-put_all-2-clause-broken g c =
    let word = c.as_bytes.result.now in
    let number = number_text c.args.fault.now in
    let named : fault_name c.args.fault.now ≡ word ++ number = c.word_of.ensures ∙ ap (λ (l : List ℕ). l ++ number) (sym c.as_bytes.ensures.value) in
    breaks_at (fault_line c.args.fault.now) ((codes "fault: " ++ word) ++ number) (10 ∷ []) [] (g.S.Sink.tape c.args.err.now) (g.S.Sink.tape c.write_number.new.err) (g.S.Sink.tape c.put_all-3.new.sink)
    (at_end (codes "fault: ") (fault_name c.args.fault.now) word number (10 ∷ []) named)
    (one_more (g.S.Sink.tape c.args.err.now) (g.S.Sink.tape c.put_all-2.new.sink) (g.S.Sink.tape c.write_number.new.err) (codes "fault: " ++ word) number
    (one_more (g.S.Sink.tape c.args.err.now) (g.S.Sink.tape c.put_all.new.sink) (g.S.Sink.tape c.put_all-2.new.sink) (codes "fault: ") word (c.in-Ok.ensures.bytes, c.in-Ok.ensures.unfailed) (c.in-Ok-put_all.ensures.bytes, c.in-Ok-put_all.ensures.unfailed))
    (c.in-Ok-write_number.ensures.written.0, c.in-Ok-write_number.ensures.written.1))
    c.in-Err-put_all-2.ensures.refused
