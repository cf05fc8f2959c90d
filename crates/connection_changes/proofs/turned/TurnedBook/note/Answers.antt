use Rattle.std.proofs.Common.{◌∷◌, refl, subst, sym, ◌∙◌}
use Rattle.std.specs.Prelude.{option_copied}
use Rattle.event_trace.specs.Noting.{said_by}
use Rattle.connection_starts.specs.declared.ordinals.Ordinals.{Ordinals}
use Rattle.connection_starts.specs.Captures.{answered}
use Rattle.connection_changes.specs.declared.clocks.Clocks.{Clocks}
use Rattle.connection_changes.specs.Books.{AreClocksOf, placed_of}
use Rattle.connection_changes.specs.TurnedBooks.{AreTurned}
use Rattle.connection_changes.proofs.Reckoned.{sent_more}
use Rattle.connection_changes.proofs.turned.TurnedBook.note.Goals as goal

pub returns-in_ok-send-in-Some : goal.returns-in_ok-send-in-Some
returns-in_ok-send-in-Some c = λ o past h.
    let s = said_by c.args.event.now (option_copied c.args.packet) c.args.outcome.now in
    let self = c.args.self.now in
    let sent = c.send.new.self in
    let clocks = c.in_ok-beside.ensures.clocks past h.clocks in
    sent_more o past s self sent _ c.in_ok-number.number c.in-Some.sending c.in_ok-beside.beside h c.send.ensures.ordinals c.in_ok-number.ensures (sym c.sent_by.ensures ∙ c.in-Some.is)
    (subst (λ (k : Clocks). AreClocksOf (s ∷ past) k) (sym c.send.ensures.clocks) clocks) (c.in_ok-beside.ensures.site past h.clocks) refl
    (λ t. subst (λ (q : Ordinals). AreTurned (λ k. answered q k) (record { sending = c.in-Some.sending; beside = c.in_ok-beside.beside } ∷ placed_of past) sent) h.ordinals
    (c.in_ok-send-in-Some.ensures.turned (placed_of past) (subst (λ (q : Ordinals). AreTurned (λ k. answered q k) (placed_of past) (record self { clocks = c.note.new.self })) (sym h.ordinals)
    (record { last = t.last; connections = t.connections; each = t.each; changed = t.changed; splits = t.splits; changes = t.changes }))))
