use Rattle.std.proofs.Common.{sym, ap, ◌∙◌}
use Rattle.summary_book.specs.Sents.{last_in}
use Rattle.summary_book.proofs.Looks.{came_first, compared}
use Rattle.summary_book.proofs.seen.SeenSends.take_anew.Goals as goal

pub returns-in-None : goal.returns-in-None
returns-in-None c = λ done s.
    let put = c.in_ok-put.ensures in
    came_first done c.args.later.now c.args.self.now c.put.new.self s (put.last (λ x. last_in done x) s.last) (put.flows (λ x. last_in done x) s.last)
    (sym c.in-None.is ∙ put.first (λ x. last_in done x) s.last)

pub returns-in-Some : goal.returns-in-Some
returns-in-Some c = λ done s.
    let put = c.in_ok-put.ensures in
    compared c.compare.result done c.in-Some.first c.args.later.now c.args.self.now c.put.new.self c.compare.new.self s
    (put.last (λ x. last_in done x) s.last) (put.flows (λ x. last_in done x) s.last) (sym c.in-Some.is ∙ put.first (λ x. last_in done x) s.last)
    c.compare.ensures.changes c.compare.ensures.splits (ap (λ z. z.last) c.compare.ensures.rest)
