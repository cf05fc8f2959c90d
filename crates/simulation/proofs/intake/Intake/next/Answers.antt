use Rattle.std.proofs.Common.{◌≡◌, Bool, refl, subst, sym, ap, ◌∙◌, Some, None}
use Rattle.pcap_file.specs.Format.{packet}
use Rattle.pcap_file.specs.Text.{RefusedBehind}
use Rattle.simulation.specs.Intake.{Taking, Seen, lent_or, ahead_if}
use Rattle.simulation.proofs.Intakes.{one_more, ahead_handed, at_end, refused_at, is_none_of}
use Rattle.simulation.proofs.intake.Intake.next.Goals as goal

pub returns-then-self-clause-more : goal.returns-then-self-clause-more
returns-then-self-clause-more g c = λ text seen s.
    let i = c.self.inside in
    let t : Taking = record { head = i.head; record_read = lent_or (λ f. packet f.value) i.lent (packet i.frame); given = i.given; ended = i.ended; ahead = ahead_if i.waits (packet i.coming); first = i.first } in
    let none = is_none_of c.self.inside.ended (sym c.if-is_some.ensures) in
    let r = packet c.swap.new.x in
    let ahead : t.ahead ≡ Some r = ap (λ (b : Bool). ahead_if b (packet i.coming)) c.if-self.true ∙ ap (λ f. Some (packet f)) (sym c.swap.ensures.x_after) in
    (ahead_handed t text _ seen r ahead (subst (λ (x : Taking). Seen text seen (g.I.Source.tape c.args.input.now) x) (sym c.self.view_is) s), none, refl)

pub returns-in-Ok-None-clause-more : goal.returns-in-Ok-None-clause-more
returns-in-Ok-None-clause-more g c = λ text seen s.
    let i = c.self.inside in
    let t : Taking = record { head = i.head; record_read = lent_or (λ f. packet f.value) i.lent (packet i.frame); given = i.given; ended = i.ended; ahead = ahead_if i.waits (packet i.coming); first = i.first } in
    let none = is_none_of c.self.inside.ended (sym c.if-is_some.ensures) in
    let clear : t.ahead ≡ None = ap (λ (b : Bool). ahead_if b (packet i.coming)) c.if-self.false in
    (one_more t text _ _ seen (packet c.read_next.new.frame) c.first_with-self-inside.result none clear c.first_with-self-inside.ensures (subst (λ (x : Taking). Seen text seen (g.I.Source.tape c.args.input.now) x) (sym c.self.view_is) s) (rw c.in-Ok-None.field-0-is at c.in-Ok-None.ensures.read), none, clear)

pub returns-in-Ok-Some-clause-more : goal.returns-in-Ok-Some-clause-more
returns-in-Ok-Some-clause-more g c = λ text seen s.
    let i = c.self.inside in
    let t : Taking = record { head = i.head; record_read = lent_or (λ f. packet f.value) i.lent (packet i.frame); given = i.given; ended = i.ended; ahead = ahead_if i.waits (packet i.coming); first = i.first } in
    let none = is_none_of c.self.inside.ended (sym c.if-is_some.ensures) in
    let clear : t.ahead ≡ None = ap (λ (b : Bool). ahead_if b (packet i.coming)) c.if-self.false in
    (at_end t text _ _ seen (packet c.read_next.new.frame) c.in-Ok-Some.ending t.ahead none clear clear (subst (λ (x : Taking). Seen text seen (g.I.Source.tape c.args.input.now) x) (sym c.self.view_is) s) (rw c.in-Ok-Some.field-0-is at c.in-Ok-Some.ensures.read), refl)

pub returns-in-Err-clause-fault : goal.returns-in-Err-clause-fault
returns-in-Err-clause-fault g c = λ text seen s.
    let i = c.self.inside in
    let t : Taking = record { head = i.head; record_read = lent_or (λ f. packet f.value) i.lent (packet i.frame); given = i.given; ended = i.ended; ahead = ahead_if i.waits (packet i.coming); first = i.first } in
    let none = is_none_of c.self.inside.ended (sym c.if-is_some.ensures) in
    let clear : t.ahead ≡ None = ap (λ (b : Bool). ahead_if b (packet i.coming)) c.if-self.false in
    subst (λ (x : Taking). RefusedBehind x.head text (g.I.Source.tape c.read_next.new.input) seen c.in-Err.fault) c.self.view_is
    (refused_at t text _ _ seen c.in-Err.fault none clear (subst (λ (x : Taking). Seen text seen (g.I.Source.tape c.args.input.now) x) (sym c.self.view_is) s) c.in-Err.ensures.refused)
