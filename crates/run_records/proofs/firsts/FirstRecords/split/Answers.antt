use Rattle.std.proofs.Common.{refl, subst}
use Rattle.run_records.specs.Firsts.{Sparing, IsSplit}
use Rattle.run_records.proofs.Sparings.{split_at}
use Rattle.run_records.proofs.firsts.FirstRecords.split.Goals as goal

pub returns-clause-split : goal.returns-clause-split
returns-clause-split g =
    subst (λ (f : Sparing). IsSplit (λ rs. ⊥) f.limit f.all g.self.inside.kept g.self.inside.others) g.self.view_is
    (split_at g.self.inside.limit _ g.self.inside.kept g.self.inside.others g.self.inside.log.items refl g.self.invariant.0 g.self.invariant.1)
