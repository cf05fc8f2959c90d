use Rattle.std.proofs.Common.{◌∷◌, ◌∙◌, ap}
use Rattle.simulate_scenario.proofs.turned.asking_turned.Goals as goal

pub returns-clause-fresh : goal.returns-clause-fresh
returns-clause-fresh g c =
    let p = c.in_ok-paged.ensures.fresh in
    record {
      paged_is = c.in_ok-paged.ensures.asked ∙ c.unturned.ensures;
      paged_are = record { beside_is = p.beside_is; kept_are = p.kept_are; numbers = p.numbers; first = p.first; first_is = p.first_is; lines_told = p.lines_told };
      turns = c.args.listing.ordinals;
      turns_are = c.and.ensures ∙ ap (λ items. c.args.listing.ordinals ∷ items) c.new.ensures;
      book_is = c.new-2.ensures;
    }
