use Rattle.std.proofs.Common.{◌<◌, ap, sym, subst, ◌∙◌}
use Rattle.std.specs.Prelude.{IsSome}
use Rattle.lru.specs.LruCache.{LruCache}
use Rattle.five_tuple.specs.declared.Flow.{Flow}
use Rattle.connection_table.specs.declared.table.Entry.{Entry}
use Rattle.connection_table.specs.declared.slot.Slot.{Slot}
use Rattle.connection_table.specs.Recency.{Recency, stored}
use Rattle.connection_table.specs.Touches.{last_touch}
use Rattle.connection_table.specs.Slots.{entry_of, shown, AreFull}
use Rattle.connection_table.proofs.Shown.{full_put, shown_put, some_found}
use Rattle.connection_table.proofs.lru_table.LruTableConnTable.store.Goals as goal

pub returns-in_default-clause-there : goal.returns-in_default-clause-there
returns-in_default-clause-there c = λ h. c.in_default.ensures.succeeds (some_found entry_of c.args.flow c.self.inside.cache.entries (subst (λ (v : Recency). IsSome (last_touch c.args.flow v.pairs)) (sym c.self.view_is) h))

pub invariant_of-self-2 : goal.invariant_of-self-2
invariant_of-self-2 c = subst (λ (t : LruCache Flow Slot). (0 < t.cap) × AreFull t.entries) (sym c.in-Ok.ensures.entries) (c.self.invariant.0, full_put c.self.inside.cache.cap c.args.flow c.slot_of.result c.self.inside.cache.entries c.slot_of.ensures.full c.self.invariant.1)

pub returns-clause-ok : goal.returns-clause-ok
returns-clause-ok c =
    ap (λ (t : LruCache Flow Slot). shown entry_of t.entries) c.in-Ok.ensures.entries
    ∙ shown_put entry_of c.args.flow c.slot_of.result c.self.inside.cache.cap c.self.inside.cache.entries c.self.invariant.0
    ∙ ap (λ (e : Entry). stored c.self.inside.cache.cap c.args.flow e (shown entry_of c.self.inside.cache.entries)) c.slot_of.ensures.same
    ∙ ap (λ (v : Recency). stored v.limit c.args.flow c.args.entry v.pairs) c.self.view_is
