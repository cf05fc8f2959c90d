use Rattle.std.proofs.Common.{rules, ◌≡◌, true, refl, ap, sym, subst, ◌∙◌, Option, Some, None}
use Rattle.std.specs.Map.{lookup}
use Rattle.std.specs.Fn.{FnOnceReturnsAt}
use Rattle.connection_table.specs.declared.table.Entry.{Entry}
use Rattle.connection_table.specs.declared.slot.Slot.{Slot}
use Rattle.connection_table.specs.Recency.{Recency, retouched, stored}
use Rattle.connection_table.specs.Renewal.{IsLeft}
use Rattle.connection_table.specs.Touches.{last_touch, same_flow}
use Rattle.connection_table.specs.Slots.{before_of, entry_of, shown}
use Rattle.connection_table.proofs.Shown.{before_full, before_is, full_put, none_last, none_when, shown_put, stored_touch, unwraps_weaker}
use Rattle.connection_table.proofs.lru_table.LruTableConnTable.renew.Goals.{in-Some+else-keeps, in_default-before}
use Rattle.connection_table.proofs.lru_table.LruTableConnTable.renew.Goals as goal

pub returns-in_default-clause-renewed : goal.returns-in_default-clause-renewed
returns-in_default-clause-renewed g c =
    let e : last_touch c.args.flow c.args.self.now.pairs ≡ None = sym (none_last entry_of c.args.flow c.self.inside.cache.entries (none_when (lookup (same_flow c.args.flow) c.self.inside.cache.entries) c.in_default.ensures.succeeds) ∙ ap (λ (v : Recency). last_touch c.args.flow v.pairs) c.self.view_is) in
    (subst (λ (o : Option Entry). IsLeft (FnOnceReturnsAt g.K.FnOnce c.args.keeps) o) (sym e) tt, c.makes-entry.ensures, (e, ap (λ (v : Recency). v.pairs) c.self.view_is))

pub invariant_of-self-then-keeps : goal.invariant_of-self-then-keeps
invariant_of-self-then-keeps g c = (c.self.invariant.0, full_put c.self.inside.cache.cap c.args.flow (record { backend = c.in-Ok.slot.now.backend; version = c.in-Ok.slot.now.version; vacant = c.in-Ok.slot.now.vacant; last = c.args.clock }) c.self.inside.cache.entries (before_full c.in-Ok.slot.now c.in-Some.entry (sym c.in-Some.ensures)).0 c.self.invariant.1)

pub returns-then-keeps-clause-renewed : goal.returns-then-keeps-clause-renewed
returns-then-keeps-clause-renewed g c =
    let w : Slot = record { backend = c.in-Ok.slot.now.backend; version = c.in-Ok.slot.now.version; vacant = c.in-Ok.slot.now.vacant; last = c.args.clock } in
    let f : before_of c.in-Ok.slot.now ≡ last_touch c.args.flow (shown entry_of c.self.inside.cache.entries) = before_is c.args.flow c.self.inside.cache.entries c.in-Ok.slot.now c.self.invariant.1 (unwraps_weaker (lookup (same_flow c.args.flow) c.self.inside.cache.entries) _ (λ (w : Slot). w.vacant ≡ true) c.in-Ok.slot.now (λ w p. search rules) c.in-Ok.ensures.value) in
    let e : last_touch c.args.flow (shown entry_of c.self.inside.cache.entries) ≡ Some c.in-Some.entry = sym f ∙ sym c.in-Some.ensures in
    let h : last_touch c.args.flow (shown entry_of c.self.inside.cache.entries) ≡ Some (entry_of c.in-Ok.slot.now) = e ∙ ap (λ (o : Entry). Some o) (sym (before_full c.in-Ok.slot.now c.in-Some.entry (sym c.in-Some.ensures)).1) in (
      sym (ap (λ (v : Recency). last_touch c.args.flow v.pairs) c.self.view_is) ∙ e,
      (_, c.if-keeps.ensures, refl),
      shown_put entry_of c.args.flow w c.self.inside.cache.cap c.self.inside.cache.entries c.self.invariant.0
          ∙ stored_touch c.self.inside.cache.cap c.args.clock c.args.flow (entry_of c.in-Ok.slot.now) (shown entry_of c.self.inside.cache.entries) h
          ∙ ap (λ (v : Recency). retouched c.args.clock c.args.flow v.pairs) c.self.view_is,
    )

pub invariant_of-self-2 : goal.invariant_of-self-2
invariant_of-self-2 g c = (c.self.invariant.0, full_put c.self.inside.cache.cap c.args.flow c.slot_of.result c.self.inside.cache.entries c.slot_of.ensures.full c.self.invariant.1)

pub returns-clause-renewed : goal.returns-clause-renewed
returns-clause-renewed g c =
    let f : before_of c.in-Ok.slot.now ≡ last_touch c.args.flow c.args.self.now.pairs = before_is c.args.flow c.self.inside.cache.entries c.in-Ok.slot.now c.self.invariant.1 (unwraps_weaker (lookup (same_flow c.args.flow) c.self.inside.cache.entries) _ (λ (w : Slot). w.vacant ≡ true) c.in-Ok.slot.now (λ w p. search rules) c.in-Ok.ensures.value) ∙ ap (λ (v : Recency). last_touch c.args.flow v.pairs) c.self.view_is in (
      elim c.match-before.branch [
        | in-Some+else-keeps w ↦ subst (λ (o : Option Entry). IsLeft (FnOnceReturnsAt g.K.FnOnce c.args.keeps) o) (w.in-Some.ensures ∙ f) (_, w.if-keeps.ensures, refl)
        | in_default-before w ↦ subst (λ (o : Option Entry). IsLeft (FnOnceReturnsAt g.K.FnOnce c.args.keeps) o) (w.in_default-before.ensures ∙ f) tt
      ],
      c.makes-entry-2.ensures,
      shown_put entry_of c.args.flow c.slot_of.result c.self.inside.cache.cap c.self.inside.cache.entries c.self.invariant.0
          ∙ ap (λ (e : Entry). stored c.self.inside.cache.cap c.args.flow e (shown entry_of c.self.inside.cache.entries)) c.slot_of.ensures.same
          ∙ ap (λ (v : Recency). stored v.limit c.args.flow c.makes-entry-2.result v.pairs) c.self.view_is,
    )
