use Rattle.std.proofs.Common.{rules, ◌≡◌, ℕ, ◌<◌, ◌+◌, ◌≤◌, List, length, get_or, true, false, arith, ap, sym, ◌∙◌, subst}
use Rattle.pool_versions.specs.declared.backend.Backend.{Backend}
use Rattle.selection.specs.Picks.{NamedTable}
use Rattle.selection.specs.Readied.{same_backend}
use Rattle.rollout_plan.specs.Tables.{IsSlotTable}
use Rattle.rollout_plan.proofs.SlotCounts.{all_places, slots_more, slots_kept, few_slots, as_many_counts, none_before, none_behind}
use Rattle.rollout_plan.proofs.slots.SlotTable.slots_of.Goals as goal
use Rattle.rollout_plan.proofs.slots.SlotTable.slots_of.Goals.{then-eq, else-eq}

pub loop-place-init : goal.loop-place-init
loop-place-init c =
    let ups : c.as_slice.result.now ≡ c.args.self.now.ups = c.as_slice.ensures.value ∙ ap (λ (t : NamedTable). t.ups) c.self.view_is in
    let within : c.places_of_name-named.result.first ≤ length c.args.self.now.ups = omega (arith, ap length ups, c.places_of_name-named.ensures.first) in
    record {
      slots = none_before c.args.backend.now c.args.self.now.ups c.args.self.now.owners c.places_of_name-named.result.first within
          (subst (λ (xs : List Backend). (k : ℕ) (d : Backend) → k < c.places_of_name-named.result.first → same_backend c.args.backend.now (get_or xs k d) ≡ false) ups c.places_of_name-named.ensures.before);
      within = within;
    }

pub index-requires-then-eq : goal.index-requires-then-eq
index-requires-then-eq c =
    omega (arith, as_many_counts c.self.inside.ups.items c.self.inside.owners.items c.self.inside.counts.items c.self.invariant.0.counted, c.self.inside.counts.ok.0, ap length c.as_slice.ensures.value, c.places_of_name-named.ensures.end, c.loop-place-test.true)

pub overflow_add-slots : goal.overflow_add-slots
overflow_add-slots c =
    let P : NamedTable → Type 0 = λ t. IsSlotTable t.size t.ups t.owners c.self.inside.counts.items in
    let whole : IsSlotTable c.args.self.now.size c.args.self.now.ups c.args.self.now.owners c.self.inside.counts.items = subst P c.self.view_is c.self.invariant.0 in
    let ups : c.self.inside.ups.items ≡ c.args.self.now.ups = ap (λ (t : NamedTable). t.ups) c.self.view_is in
    let low : c.loop-place.place < length c.args.self.now.ups = omega (arith, ap length ups, ap length c.as_slice.ensures.value, c.places_of_name-named.ensures.end, c.loop-place-test.true) in
    let read = subst (λ (xs : List Backend). c.index.result.now ≡ get_or xs c.loop-place.place c.index.result.now) ups c.index.ensures in
    let same : same_backend c.args.backend.now c.index.result.now ≡ true = sym c.eq.ensures ∙ c.if-eq.true in
    let more = slots_more c.args.backend.now c.args.self.now.ups c.args.self.now.owners c.self.inside.counts.items c.loop-place.place c.loop-place.slots c.index-then-eq.result.now c.index.result.now whole.counted whole.few low read same c.index-then-eq.ensures c.loop-place.invariant.slots in
    let fits : c.loop-place.slots + c.index-then-eq.result.now ≤ 65537 = more.1 in
    search rules

pub loop-place-preserved : goal.loop-place-preserved
loop-place-preserved c =
    let P : NamedTable → Type 0 = λ t. IsSlotTable t.size t.ups t.owners c.self.inside.counts.items in
    let whole : IsSlotTable c.args.self.now.size c.args.self.now.ups c.args.self.now.owners c.self.inside.counts.items = subst P c.self.view_is c.self.invariant.0 in
    let ups : c.self.inside.ups.items ≡ c.args.self.now.ups = ap (λ (t : NamedTable). t.ups) c.self.view_is in
    let low : c.loop-place.place < length c.args.self.now.ups = omega (arith, ap length ups, ap length c.as_slice.ensures.value, c.places_of_name-named.ensures.end, c.loop-place-test.true) in
    let read = subst (λ (xs : List Backend). c.index.result.now ≡ get_or xs c.loop-place.place c.index.result.now) ups c.index.ensures in
    elim c.if-eq.branch [
      | then-eq w ↦
          let same : same_backend c.args.backend.now c.index.result.now ≡ true = sym c.eq.ensures ∙ w.if-eq.true in
          let more = slots_more c.args.backend.now c.args.self.now.ups c.args.self.now.owners c.self.inside.counts.items c.loop-place.place c.loop-place.slots w.index-then-eq.result.now c.index.result.now whole.counted whole.few low read same w.index-then-eq.ensures c.loop-place.invariant.slots in
          record { slots = rw w.slots-is more.0; within = omega (arith, low) }
      | else-eq w ↦
          let other : same_backend c.args.backend.now c.index.result.now ≡ false = sym c.eq.ensures ∙ w.if-eq.false in
          record {
            slots = rw w.slots-is (slots_kept c.args.backend.now c.args.self.now.ups c.args.self.now.owners c.loop-place.place c.loop-place.slots c.index.result.now low read other c.loop-place.invariant.slots);
            within = omega (arith, low);
          }
    ]

pub returns-clause-slots : goal.returns-clause-slots
returns-clause-slots c =
    let P : NamedTable → Type 0 = λ t. IsSlotTable t.size t.ups t.owners c.self.inside.counts.items in
    let whole : IsSlotTable c.args.self.now.size c.args.self.now.ups c.args.self.now.owners c.self.inside.counts.items = subst P c.self.view_is c.self.invariant.0 in
    let ups : c.as_slice.result.now ≡ c.args.self.now.ups = c.as_slice.ensures.value ∙ ap (λ (t : NamedTable). t.ups) c.self.view_is in
    let apart = subst (λ (xs : List Backend). (k : ℕ) (d : Backend) → c.places_of_name-named.result.end ≤ k → k < length xs → same_backend c.args.backend.now (get_or xs k d) ≡ false) ups c.places_of_name-named.ensures.behind in
    let past = none_behind c.args.backend.now c.args.self.now.ups c.args.self.now.owners c.loop-place.place c.loop-place.invariant.within (λ k d high low. apart k d (omega (arith, high, c.loop-place-test.false)) low) in
    let all = all_places c.args.self.now.size c.args.self.now.ups c.args.self.now.owners c.args.backend.now whole.long whole.named in
    c.loop-place.invariant.slots ∙ past ∙ all

pub returns-clause-few : goal.returns-clause-few
returns-clause-few c =
    let P : NamedTable → Type 0 = λ t. IsSlotTable t.size t.ups t.owners c.self.inside.counts.items in
    let whole : IsSlotTable c.args.self.now.size c.args.self.now.ups c.args.self.now.owners c.self.inside.counts.items = subst P c.self.view_is c.self.invariant.0 in
    few_slots c.args.backend.now c.args.self.now.ups c.args.self.now.owners c.loop-place.place c.loop-place.slots whole.few c.loop-place.invariant.slots
