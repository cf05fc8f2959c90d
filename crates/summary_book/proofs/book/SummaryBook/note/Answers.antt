use Rattle.std.proofs.Common.{ℕ, ◌∙◌, sym, ap}
use Rattle.event_trace.specs.Noting.{said_by}
use Rattle.summary_book.specs.Books.{sents_of}
use Rattle.summary_book.specs.Sents.{sent_by}
use Rattle.summary_book.proofs.Noted.{unsent_noted, sent_noted}
use Rattle.summary_book.proofs.book.SummaryBook.note.Goals as goal

pub returns-in-None : goal.returns-in-None
returns-in-None c = λ past packet h.
    unsent_noted c.note_unsent.result (said_by c.args.event.now packet c.args.outcome.now) past c.args.self.now c.note_unsent.new.self h
    (sym c.in-None.is ∙ c.sent_by.ensures ∙ ap (λ (l : ℕ). sent_by c.args.event.now c.args.outcome.now l) c.life_at-life.ensures) c.note_unsent.ensures.lives c.note_unsent.ensures.rest

pub returns-in-Some : goal.returns-in-Some
returns-in-Some c = λ past packet h.
    sent_noted c.wait.result (said_by c.args.event.now packet c.args.outcome.now) past c.args.self.now c.wait.new.self c.in-Some.sent h
    (sym c.in-Some.is ∙ c.sent_by.ensures ∙ ap (λ (l : ℕ). sent_by c.args.event.now c.args.outcome.now l) c.life_at-life.ensures)
    (c.wait.ensures.sents (sents_of past) h.sents) c.wait.ensures.lives
