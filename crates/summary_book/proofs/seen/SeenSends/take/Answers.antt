use Rattle.std.proofs.Common.{sym, subst}
use Rattle.summary_book.specs.declared.last.Lasts.{Lasts}
use Rattle.summary_book.specs.Sents.{last_in}
use Rattle.summary_book.specs.Lasts.{IsPlaceOf}
use Rattle.summary_book.proofs.Looks.{renewed, not_renewed}
use Rattle.summary_book.proofs.seen.SeenSends.take.Goals as goal

pub take_anew-requires : goal.take_anew-requires
take_anew-requires c = subst (λ (l : Lasts). IsPlaceOf c.args.later.now.flow l c.place_by-place.result) (sym (c.renew.ensures.same c.if-renew.false)) c.place_by-place.ensures

pub returns-then-renew : goal.returns-then-renew
returns-then-renew c = λ done s. renewed c.args.later.now done c.args.self.now c.renew.new.self s (c.renew.ensures.last (λ x. last_in done x) c.if-renew.true s.last)

pub returns : goal.returns
returns c = λ done s. c.take_anew.ensures done (not_renewed done c.args.self.now c.renew.new.self s (c.renew.ensures.same c.if-renew.false))
