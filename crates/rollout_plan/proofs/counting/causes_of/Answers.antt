use Rattle.std.proofs.Common.{◌≡◌, ◌&&◌, ℕ, Bool, true, false, not, arith, ap, refl, sym, ◌∙◌}
use Rattle.table_commands.specs.Compare.{is_moved, named_at}
use Rattle.rollout_plan.specs.Counts.{slots_where, stays_up, who_drains, down, moved, drained}
use Rattle.rollout_plan.proofs.SlotCounts.{count_yes, count_no, causes_add_up}
use Rattle.rollout_plan.proofs.counting.causes_of.Goals as goal
use Rattle.rollout_plan.proofs.counting.causes_of.Goals.{then-is_moved+then-stays_up, then-is_moved+else-stays_up+then-who_drains, then-is_moved+else-stays_up+else-who_drains, else-is_moved}

pub loop-slot-preserved : goal.loop-slot-preserved
loop-slot-preserved c =
    let fell : ℕ → Bool = λ slot. is_moved c.args.before.now c.args.after.now slot && (not (stays_up c.args.after.now (named_at c.args.before.now slot)) && not (who_drains c.args.draining.now (named_at c.args.before.now slot))) in
    let went : ℕ → Bool = λ slot. is_moved c.args.before.now c.args.after.now slot && stays_up c.args.after.now (named_at c.args.before.now slot) in
    let left : ℕ → Bool = λ slot. is_moved c.args.before.now c.args.after.now slot && (not (stays_up c.args.after.now (named_at c.args.before.now slot)) && who_drains c.args.draining.now (named_at c.args.before.now slot)) in
    elim c.if-is_moved.branch [
      | then-is_moved+then-stays_up w ↦
          let m : is_moved c.args.before.now c.args.after.now c.loop-slot.slot ≡ true = sym c.is_moved.ensures ∙ w.if-is_moved.true in
          let s : stays_up c.args.after.now (named_at c.args.before.now c.loop-slot.slot) ≡ true = sym (w.stays_up.ensures c.args.after.now (w.as_slice.ensures.value ∙ c.in_ok-staying.ensures)) ∙ w.if-stays_up.true in
          record {
            down = rw w.down-is (count_no fell c.loop-slot.slot c.loop-slot.down (rw (m, s) refl) c.loop-slot.invariant.down);
            moved = rw w.moved-is (count_yes went c.loop-slot.slot c.loop-slot.moved (rw (m, s) refl) c.loop-slot.invariant.moved);
            drained = rw w.drained-is (count_no left c.loop-slot.slot c.loop-slot.drained (rw (m, s) refl) c.loop-slot.invariant.drained);
            few = omega (arith, w.down-is, w.moved-is, w.drained-is, c.loop-slot.invariant.few);
          }
      | then-is_moved+else-stays_up+then-who_drains w ↦
          let m : is_moved c.args.before.now c.args.after.now c.loop-slot.slot ≡ true = sym c.is_moved.ensures ∙ w.if-is_moved.true in
          let s : stays_up c.args.after.now (named_at c.args.before.now c.loop-slot.slot) ≡ false = sym (w.stays_up.ensures c.args.after.now (w.as_slice.ensures.value ∙ c.in_ok-staying.ensures)) ∙ w.if-stays_up.false in
          let d : who_drains c.args.draining.now (named_at c.args.before.now c.loop-slot.slot) ≡ true = sym (w.who_drains.ensures c.args.draining.now (w.as_slice-else-stays_up.ensures.value ∙ c.in_ok-leaving.ensures)) ∙ w.if-who_drains.true in
          record {
            down = rw w.down-is (count_no fell c.loop-slot.slot c.loop-slot.down (rw (m, s, d) refl) c.loop-slot.invariant.down);
            moved = rw w.moved-is (count_no went c.loop-slot.slot c.loop-slot.moved (rw (m, s) refl) c.loop-slot.invariant.moved);
            drained = rw w.drained-is (count_yes left c.loop-slot.slot c.loop-slot.drained (rw (m, s, d) refl) c.loop-slot.invariant.drained);
            few = omega (arith, w.down-is, w.moved-is, w.drained-is, c.loop-slot.invariant.few);
          }
      | then-is_moved+else-stays_up+else-who_drains w ↦
          let m : is_moved c.args.before.now c.args.after.now c.loop-slot.slot ≡ true = sym c.is_moved.ensures ∙ w.if-is_moved.true in
          let s : stays_up c.args.after.now (named_at c.args.before.now c.loop-slot.slot) ≡ false = sym (w.stays_up.ensures c.args.after.now (w.as_slice.ensures.value ∙ c.in_ok-staying.ensures)) ∙ w.if-stays_up.false in
          let d : who_drains c.args.draining.now (named_at c.args.before.now c.loop-slot.slot) ≡ false = sym (w.who_drains.ensures c.args.draining.now (w.as_slice-else-stays_up.ensures.value ∙ c.in_ok-leaving.ensures)) ∙ w.if-who_drains.false in
          record {
            down = rw w.down-is (count_yes fell c.loop-slot.slot c.loop-slot.down (rw (m, s, d) refl) c.loop-slot.invariant.down);
            moved = rw w.moved-is (count_no went c.loop-slot.slot c.loop-slot.moved (rw (m, s) refl) c.loop-slot.invariant.moved);
            drained = rw w.drained-is (count_no left c.loop-slot.slot c.loop-slot.drained (rw (m, s, d) refl) c.loop-slot.invariant.drained);
            few = omega (arith, w.down-is, w.moved-is, w.drained-is, c.loop-slot.invariant.few);
          }
      | else-is_moved w ↦
          let m : is_moved c.args.before.now c.args.after.now c.loop-slot.slot ≡ false = sym c.is_moved.ensures ∙ w.if-is_moved.false in
          record {
            down = rw w.down-is (count_no fell c.loop-slot.slot c.loop-slot.down (rw m refl) c.loop-slot.invariant.down);
            moved = rw w.moved-is (count_no went c.loop-slot.slot c.loop-slot.moved (rw m refl) c.loop-slot.invariant.moved);
            drained = rw w.drained-is (count_no left c.loop-slot.slot c.loop-slot.drained (rw m refl) c.loop-slot.invariant.drained);
            few = omega (arith, w.down-is, w.moved-is, w.drained-is, c.loop-slot.invariant.few);
          }
    ]

pub returns-clause-changed : goal.returns-clause-changed
returns-clause-changed c =
    let fell : ℕ → Bool = λ slot. is_moved c.args.before.now c.args.after.now slot && (not (stays_up c.args.after.now (named_at c.args.before.now slot)) && not (who_drains c.args.draining.now (named_at c.args.before.now slot))) in
    let went : ℕ → Bool = λ slot. is_moved c.args.before.now c.args.after.now slot && stays_up c.args.after.now (named_at c.args.before.now slot) in
    let left : ℕ → Bool = λ slot. is_moved c.args.before.now c.args.after.now slot && (not (stays_up c.args.after.now (named_at c.args.before.now slot)) && who_drains c.args.draining.now (named_at c.args.before.now slot)) in
    let past : c.loop-slot.slot ≡ c.args.before.now.size = omega (arith, c.loop-slot-test.false, c.loop-slot.auto.slot-end, c.size-slot-end.ensures.size) in
    let d : c.loop-slot.down ≡ down c.args.before.now c.args.after.now c.args.draining.now = c.loop-slot.invariant.down ∙ ap (slots_where fell) past in
    let m : c.loop-slot.moved ≡ moved c.args.before.now c.args.after.now = c.loop-slot.invariant.moved ∙ ap (slots_where went) past in
    let e : c.loop-slot.drained ≡ drained c.args.before.now c.args.after.now c.args.draining.now = c.loop-slot.invariant.drained ∙ ap (slots_where left) past in
    omega (arith, d, m, e, causes_add_up c.args.before.now c.args.after.now c.args.draining.now)
