use Rattle.std.proofs.Common.{◌≡◌, ℕ, ◌<◌, ◌%◌, ◌++◌, ◌∷◌, List, [], length, arith, ap, sym, ◌∙◌}
use Rattle.std.proofs.lemmas.Nat.{mod_below}
use Rattle.std.proofs.lemmas.List.Elements.{All-push}
use Rattle.std.proofs.lemmas.List.FromFn.{map-range_with_len_more, length-map-range_with_len}
use Rattle.rollout_plan.proofs.slots.turn_slots.Goals as goal

pub loop-slot-preserved : goal.loop-slot-preserved
loop-slot-preserved c = record {
  places =
      c.in_ok-push.ensures.items ∙ ap (λ (xs : List ℕ). xs ++ (c.loop-slot.slot % c.args.backends) ∷ []) c.loop-slot.invariant.places
      ∙ sym (map-range_with_len_more (λ slot. slot % c.args.backends) 0 c.loop-slot.slot c.loop-slot.slot (omega arith));
  named =
      let P : ℕ → Type 0 = λ place. place < c.args.backends in
      let low : c.loop-slot.slot % c.args.backends < c.args.backends = mod_below c.loop-slot.slot c.args.backends (omega (arith, c.if-backends-eq0.false)) in
      rw c.in_ok-push.ensures.items (All-push P c.loop-slot.places.items (c.loop-slot.slot % c.args.backends) c.loop-slot.invariant.named low);
}

pub returns-clause-long : goal.returns-clause-long
returns-clause-long c = λ some.
    let many : length c.loop-slot.places.items ≡ c.loop-slot.slot = ap length c.loop-slot.invariant.places ∙ length-map-range_with_len (λ slot. slot % c.args.backends) 0 c.loop-slot.slot in
    omega (arith, many, c.loop-slot-test.false, c.loop-slot.auto.slot-end, c.slots-slot-end.ensures.value)

pub returns-clause-few : goal.returns-clause-few
returns-clause-few c =
    let many : length c.loop-slot.places.items ≡ c.loop-slot.slot = ap length c.loop-slot.invariant.places ∙ length-map-range_with_len (λ slot. slot % c.args.backends) 0 c.loop-slot.slot in
    omega (arith, many, c.loop-slot-test.false, c.loop-slot.auto.slot-end, c.slots-slot-end.ensures.value)
