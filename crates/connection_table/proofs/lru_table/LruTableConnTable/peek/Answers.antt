use Rattle.std.proofs.Common.{ap, ◌∙◌, Option, Some}
use Rattle.std.specs.Option.{option_map}
use Rattle.connection_table.specs.declared.table.Entry.{Entry}
use Rattle.connection_table.specs.declared.slot.Slot.{Slot}
use Rattle.connection_table.specs.Recency.{Recency}
use Rattle.connection_table.specs.Touches.{last_touch}
use Rattle.connection_table.specs.Slots.{entry_of}
use Rattle.connection_table.proofs.Shown.{shown_lookup}
use Rattle.connection_table.proofs.lru_table.LruTableConnTable.peek.Goals as goal

pub returns-in-Some : goal.returns-in-Some
returns-in-Some c = ap (λ (e : Entry). Some e) c.entry_in.ensures ∙ ap (λ (o : Option Slot). option_map entry_of o) c.in-Some.ensures ∙ shown_lookup entry_of c.args.flow.now c.self.inside.cache.entries ∙ ap (λ (v : Recency). last_touch c.args.flow.now v.pairs) c.self.view_is

pub returns-in-None : goal.returns-in-None
returns-in-None c = ap (λ (o : Option Slot). option_map entry_of o) c.in-None.ensures ∙ shown_lookup entry_of c.args.flow.now c.self.inside.cache.entries ∙ ap (λ (v : Recency). last_touch c.args.flow.now v.pairs) c.self.view_is
