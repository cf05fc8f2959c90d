use Rattle.std.proofs.Common.{refl, sym}
use Rattle.named_scheme.proofs.Preparing.{prepared_told}
use Rattle.named_scheme.proofs.NamedSchemeScheme.prepare.Goals as goal

pub returns-in_ok-table-in-Maglev-clause-ok : goal.returns-in_ok-table-in-Maglev-clause-ok
returns-in_ok-table-in-Maglev-clause-ok c = λ ds. prepared_told _ c.args.self.now c.args.size _ _ _ (sym c.in-Maglev.is) refl (c.in_ok-table-in-Maglev.ensures.ok ds)

pub returns-in_ok-backends-in-Plain-clause-ok : goal.returns-in_ok-backends-in-Plain-clause-ok
returns-in_ok-backends-in-Plain-clause-ok c = λ ds. prepared_told _ c.args.self.now c.args.size _ _ _ (sym c.in-Plain.is) refl (c.in_ok-backends-in-Plain.ensures.ok ds)

pub returns-in_ok-backends-in-Round-clause-ok : goal.returns-in_ok-backends-in-Round-clause-ok
returns-in_ok-backends-in-Round-clause-ok c = λ ds. prepared_told _ c.args.self.now c.args.size _ _ _ (sym c.in-Round.is) refl (c.in_ok-backends-in-Round.ensures.ok ds)
