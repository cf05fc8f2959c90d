use Rattle.std.proofs.Common.{sym, ap, ◌∙◌}
use Rattle.run_report.specs.Noting.{last_noted}
use Rattle.run_report.proofs.Noting.{came_first, compared}
use Rattle.run_report.proofs.book.SplitBook.take.Goals as goal

pub returns-in-None-clause-settled : goal.returns-in-None-clause-settled
returns-in-None-clause-settled g c = λ done s.
    let put = c.in_ok-put.ensures in
    came_first done c.args.later.now c.args.self.now c.put.new.self s (put.last (λ x. last_noted done x) s.last) (put.flows (λ x. last_noted done x) s.last)
    (sym (put.first (λ x. last_noted done x) s.last) ∙ c.in-None.is)

pub returns-in-Some-clause-settled : goal.returns-in-Some-clause-settled
returns-in-Some-clause-settled g c = λ done s.
    let put = c.in_ok-put.ensures in
    compared c.compare.result done c.in-Some.first c.args.later.now c.args.self.now c.put.new.self c.compare.new.self s
    (put.last (λ x. last_noted done x) s.last) (put.flows (λ x. last_noted done x) s.last) (sym (put.first (λ x. last_noted done x) s.last) ∙ c.in-Some.is)
    c.compare.ensures.splits c.compare.ensures.besides (ap (λ z. z.last) c.compare.ensures.rest)
