use Rattle.std.specs.Prelude.{option_copied}
use Rattle.event_trace.specs.Noting.{said_by}
use Rattle.simulate_scenario.proofs.Turning.{turned_more}
use Rattle.simulate_scenario.proofs.turned.TurnedNotesNotes.note.Goals as goal

pub returns : goal.returns
returns g c = λ past h.
    let asked = c.args.asked.now in
    let s = said_by c.args.event.now (option_copied c.args.packet) c.args.outcome.now in
    turned_more (λ first pages text whole. g.P.Pages.told first pages text whole) c.note-2.result asked.wanted asked.paged.wanted asked.paged.unlisted asked.paged.first.items asked.ordinals.items past s
    c.args.self.now.paged.kept c.note.new.self.kept c.args.self.now.paged.number c.note.new.self.number _ _ c.args.self.now.paged.pages c.note.new.self.pages c.args.self.now.book c.note-2.new.self h
    (λ k. c.in_ok-note.ensures past k) (λ o k. c.note-2.ensures o past k)
