use Rattle.std.proofs.Common.{length, ap, sym, ◌∙◌}
use Rattle.connection_table.specs.Recency.{Recency}
use Rattle.connection_table.specs.Slots.{entry_of}
use Rattle.connection_table.proofs.Shown.{length_shown}
use Rattle.connection_table.proofs.lru_table.LruTableConnTable.len.Goals as goal

pub returns : goal.returns
returns c = c.len.ensures.len ∙ sym (length_shown entry_of c.self.inside.cache.entries) ∙ ap (λ (v : Recency). length v.pairs) c.self.view_is
