use Rattle.std.proofs.Common.{sym, subst}
use Rattle.std.specs.Prelude.{IfSome}
use Rattle.cluster_node.specs.declared.outcomes.Outcome.{Outcome}
use Rattle.run_report.specs.declared.last_sends.LastSends.{LastSends}
use Rattle.run_report.specs.Splits.{sent_by}
use Rattle.run_report.specs.Noting.{last_noted}
use Rattle.run_report.specs.Books.{IsPlaceOf}
use Rattle.run_report.proofs.Noting.{renewed, not_renewed}
use Rattle.run_report.proofs.book.SplitBook.send.Goals as goal

pub renew-requires : goal.renew-requires
renew-requires g c =
    subst (λ (o : Outcome). IfSome (sent_by c.args.self.now.number c.args.event.now o) (λ s. IsPlaceOf s.flow c.args.self.now.last c.place_of-place.result)) (sym c.in-Forward.is) c.place_of-place.ensures

pub send_anew-requires : goal.send_anew-requires
send_anew-requires g c =
    subst (λ (l : LastSends g.row.T.Denot). IfSome (sent_by c.args.self.now.number c.args.event.now c.args.outcome.now) (λ s. IsPlaceOf s.flow l c.place_of-place.result)) (sym (c.renew.ensures.same c.if-renew.false))
    (subst (λ (o : Outcome). IfSome (sent_by c.args.self.now.number c.args.event.now o) (λ s. IsPlaceOf s.flow c.args.self.now.last c.place_of-place.result)) (sym c.in-Forward.is) c.place_of-place.ensures)

pub returns-then-renew-clause-settled : goal.returns-then-renew-clause-settled
returns-then-renew-clause-settled g c = λ done s.
    renewed (sent_by c.args.self.now.number c.args.event.now c.args.outcome.now) c.args.beside done c.args.self.now c.renew.new.self s (c.renew.ensures.last (λ x. last_noted done x) c.if-renew.true s.last)

pub returns-clause-settled : goal.returns-clause-settled
returns-clause-settled g c = λ done s.
    c.send_anew.ensures.settled done (not_renewed done c.args.self.now c.renew.new.self s (c.renew.ensures.same c.if-renew.false))
