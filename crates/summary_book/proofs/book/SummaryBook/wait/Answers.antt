use Rattle.std.proofs.Common.{List, [], ◌∷◌, ◌++◌, ap, ◌∙◌}
use Rattle.summary_book.specs.declared.sent.Sent.{Sent}
use Rattle.summary_book.proofs.Noted.{waits_more, all_taken}
use Rattle.summary_book.proofs.book.SummaryBook.wait.Goals as goal

pub returns-clause-sents : goal.returns-clause-sents
returns-clause-sents c = λ all h.
    let items = c.push_reserved.ensures.items ∙ ap (λ (ss : List Sent). ss ++ c.args.sent ∷ []) c.reserve.ensures.items in
    let waits = waits_more all h.done c.args.self.now.waiting.items c.push_reserved.new.self.items c.args.sent h.whole items in
    all_taken c.take.result (c.args.sent ∷ all) c.take.new.self
    (c.take.ensures.seen (c.args.sent ∷ all) (record { done = h.done; seen = h.seen; whole = waits })) c.take.ensures.none
