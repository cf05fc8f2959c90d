use Rattle.selection.proofs.maglev.filled.Goals as goal

pub returns-in-Ok-clause-some : goal.returns-in-Ok-clause-some
returns-in-Ok-clause-some c = record {
  some = λ e. let h = c.in-Ok.ensures.no_backends.1 e in absurd cc;
  lists_are = c.in-Ok.ensures.lists;
  long = c.in-Ok.ensures.slots;
  owners_are = c.in-Ok.ensures.table;
  shares = c.in-Ok.ensures.shares;
  balanced = λ equal. c.in-Ok.ensures.balanced equal;
}
