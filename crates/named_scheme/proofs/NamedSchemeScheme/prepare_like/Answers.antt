use Rattle.std.proofs.Common.{refl, sym}
use Rattle.named_scheme.proofs.Preparing.{prepared_told}
use Rattle.named_scheme.proofs.NamedSchemeScheme.prepare_like.Goals as goal

pub prepare_like-requires-clause-like : goal.prepare_like-requires-clause-like
prepare_like-requires-clause-like c = record {
  others = c.requires.like.others;
  named = c.requires.like.named;
  holds = λ ds. prepared_told c.args.self.now _ c.args.size _ c.args.like.now _ c.in-Maglev-Table.is-0 c.in-Maglev-Table.is-1 (c.requires.like.holds ds);
}

pub returns-in-Maglev-Table-clause-ok : goal.returns-in-Maglev-Table-clause-ok
returns-in-Maglev-Table-clause-ok c = λ ds. prepared_told _ c.args.self.now c.args.size _ _ _ (sym c.in-Maglev-Table.is-0) refl (c.in_ok-table.ensures.ok ds)
