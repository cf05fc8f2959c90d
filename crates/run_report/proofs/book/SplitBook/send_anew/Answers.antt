use Rattle.std.proofs.Common.{Option, sym, ◌∙◌, subst}
use Rattle.std.specs.Prelude.{IfSome, OnOk}
use Rattle.run_report.specs.declared.sending.Sending.{Sending}
use Rattle.run_report.specs.Noting.{noted_with}
use Rattle.run_report.specs.Books.{IsPlaceOf, IsSettledAs}
use Rattle.run_report.proofs.book.SplitBook.send_anew.Goals as goal

pub take-requires : goal.take-requires
take-requires g c = subst (λ (o : Option Sending). IfSome o (λ s. IsPlaceOf s.flow c.args.self.now.last c.args.place)) (sym c.sent_by.ensures ∙ c.in-Some.is) c.requires

pub returns-in-None-clause-settled : goal.returns-in-None-clause-settled
returns-in-None-clause-settled g c = λ done s.
    subst (λ (o : Option Sending). IsSettledAs (noted_with o c.args.beside done) c.args.self.now) (sym (sym c.sent_by.ensures ∙ c.in-None.is)) s

pub returns-in-Some-clause-settled : goal.returns-in-Some-clause-settled
returns-in-Some-clause-settled g c = λ done s.
    subst (λ (o : Option Sending). OnOk c.take.result (IsSettledAs (noted_with o c.args.beside done) c.take.new.self)) (sym (sym c.sent_by.ensures ∙ c.in-Some.is)) (c.take.ensures.settled done s)
