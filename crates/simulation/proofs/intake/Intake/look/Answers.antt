use Rattle.std.proofs.Common.{◌≡◌, Bool, refl, subst, sym, ap, ◌∙◌, is_some, Some, None}
use Rattle.pcap_file.specs.Format.{packet}
use Rattle.pcap_file.specs.Text.{RefusedBehind}
use Rattle.simulation.specs.Intake.{Taking, Seen, Looked, lent_or, ahead_if}
use Rattle.simulation.proofs.Intakes.{one_ahead, at_end, refused_at, is_none_of, looked_ahead, looked_ended, looked_on}
use Rattle.simulation.proofs.intake.Intake.look.Goals as goal

pub returns-then-self-clause-looked : goal.returns-then-self-clause-looked
returns-then-self-clause-looked g c =
    let i = c.self.inside in
    let t : Taking = record { head = i.head; record_read = lent_or (λ f. packet f.value) i.lent (packet i.frame); given = i.given; ended = i.ended; ahead = ahead_if i.waits (packet i.coming); first = i.first } in
    looked_ahead c.args.self.now (packet i.coming) (sym (ap (λ (x : Taking). x.ahead) c.self.view_is) ∙ ap (λ (b : Bool). ahead_if b (packet i.coming)) c.if-self.true)

pub returns-then-is_some-clause-looked : goal.returns-then-is_some-clause-looked
returns-then-is_some-clause-looked g c = looked_ended c.args.self.now (sym (ap (λ (x : Taking). is_some x.ended) c.self.view_is) ∙ sym c.if-is_some.ensures)

pub returns-in-Ok-None-clause-seen : goal.returns-in-Ok-None-clause-seen
returns-in-Ok-None-clause-seen g c = λ text seen s.
    let i = c.self.inside in
    let t : Taking = record { head = i.head; record_read = lent_or (λ f. packet f.value) i.lent (packet i.frame); given = i.given; ended = i.ended; ahead = ahead_if i.waits (packet i.coming); first = i.first } in
    let none = is_none_of c.self.inside.ended (sym c.if-is_some.ensures) in
    let clear : t.ahead ≡ None = ap (λ (b : Bool). ahead_if b (packet i.coming)) c.if-self.false in
    one_ahead t text _ _ seen (packet c.read_next.new.frame) c.first_with-self-inside.result none clear c.first_with-self-inside.ensures (subst (λ (x : Taking). Seen text seen (g.I.Source.tape c.args.input.now) x) (sym c.self.view_is) s) (rw c.in-Ok-None.field-0-is at c.in-Ok-None.ensures.read)

pub returns-in-Ok-None-clause-looked : goal.returns-in-Ok-None-clause-looked
returns-in-Ok-None-clause-looked g c =
    let i = c.self.inside in
    let t : Taking = record { head = i.head; record_read = lent_or (λ f. packet f.value) i.lent (packet i.frame); given = i.given; ended = i.ended; ahead = ahead_if i.waits (packet i.coming); first = i.first } in
    let none = is_none_of c.self.inside.ended (sym c.if-is_some.ensures) in
    let clear : t.ahead ≡ None = ap (λ (b : Bool). ahead_if b (packet i.coming)) c.if-self.false in
    let u : Taking = record { head = t.head; record_read = t.record_read; given = t.given; ended = t.ended; ahead = Some (packet c.read_next.new.frame); first = c.first_with-self-inside.result } in
    subst (λ (x : Taking). Looked x u) c.self.view_is (looked_on t u none clear (λ bad. cc))

pub returns-in-Ok-Some-clause-seen : goal.returns-in-Ok-Some-clause-seen
returns-in-Ok-Some-clause-seen g c = λ text seen s.
    let i = c.self.inside in
    let t : Taking = record { head = i.head; record_read = lent_or (λ f. packet f.value) i.lent (packet i.frame); given = i.given; ended = i.ended; ahead = ahead_if i.waits (packet i.coming); first = i.first } in
    let none = is_none_of c.self.inside.ended (sym c.if-is_some.ensures) in
    let clear : t.ahead ≡ None = ap (λ (b : Bool). ahead_if b (packet i.coming)) c.if-self.false in
    at_end t text _ _ seen t.record_read c.in-Ok-Some.ending (ahead_if i.waits (packet c.read_next.new.frame)) none clear (ap (λ (b : Bool). ahead_if b (packet c.read_next.new.frame)) c.if-self.false) (subst (λ (x : Taking). Seen text seen (g.I.Source.tape c.args.input.now) x) (sym c.self.view_is) s) (rw c.in-Ok-Some.field-0-is at c.in-Ok-Some.ensures.read)

pub returns-in-Ok-Some-clause-looked : goal.returns-in-Ok-Some-clause-looked
returns-in-Ok-Some-clause-looked g c =
    let i = c.self.inside in
    let t : Taking = record { head = i.head; record_read = lent_or (λ f. packet f.value) i.lent (packet i.frame); given = i.given; ended = i.ended; ahead = ahead_if i.waits (packet i.coming); first = i.first } in
    let none = is_none_of c.self.inside.ended (sym c.if-is_some.ensures) in
    let clear : t.ahead ≡ None = ap (λ (b : Bool). ahead_if b (packet i.coming)) c.if-self.false in
    let u : Taking = record { head = t.head; record_read = t.record_read; given = t.given; ended = Some c.in-Ok-Some.ending; ahead = ahead_if i.waits (packet c.read_next.new.frame); first = t.first } in
    subst (λ (x : Taking). Looked x u) c.self.view_is (looked_on t u none clear (λ _. refl))

pub returns-in-Err-clause-fault : goal.returns-in-Err-clause-fault
returns-in-Err-clause-fault g c = λ text seen s.
    let i = c.self.inside in
    let t : Taking = record { head = i.head; record_read = lent_or (λ f. packet f.value) i.lent (packet i.frame); given = i.given; ended = i.ended; ahead = ahead_if i.waits (packet i.coming); first = i.first } in
    let none = is_none_of c.self.inside.ended (sym c.if-is_some.ensures) in
    let clear : t.ahead ≡ None = ap (λ (b : Bool). ahead_if b (packet i.coming)) c.if-self.false in
    subst (λ (x : Taking). RefusedBehind x.head text (g.I.Source.tape c.read_next.new.input) seen c.in-Err.fault) c.self.view_is
    (refused_at t text _ _ seen c.in-Err.fault none clear (subst (λ (x : Taking). Seen text seen (g.I.Source.tape c.args.input.now) x) (sym c.self.view_is) s) c.in-Err.ensures.refused)
