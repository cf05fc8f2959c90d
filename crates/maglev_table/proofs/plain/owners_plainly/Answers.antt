use Rattle.std.proofs.Common.{◌≡◌, ◌<◌, Option, List, Vec, Global, map, length, ℕ, arith, sym, ap, ◌∙◌}
use Rattle.std.specs.Prelude.{unwrap_or}
use Rattle.std.proofs.lemmas.List.{length-map}
use Rattle.maglev_table.specs.Turns.{preference_list, takers, claims, one_turn_each}
use Rattle.maglev_table.proofs.Steps.{are_full, some_item}
use Rattle.maglev_table.proofs.Whole.{made_is_maglev}
use Rattle.maglev_table.proofs.plain.owners_plainly.Goals as goal
use Rattle.std.proofs.lemmas.Grind.{common_steps}

pub take_turns-requires-clause-full : goal.take_turns-requires-clause-full
take_turns-requires-clause-full c =
    let n : length c.in_ok-written.written.items ≡ length c.args.lists.now =
    sym (length-map c.in_ok-written.written.items (λ (w : Vec ℕ Global). w.items)) ∙ ap length c.in_ok-written.ensures.lists ∙ length-map c.args.lists.now preference_list in
    let some : 0 < length c.args.lists.now = some_item _ _ c.is_empty.ensures c.if-is_empty.false in
    rw (c.as_slice.ensures.value, c.slots-slots.ensures.value) (are_full (λ (w : Vec ℕ Global). w.items) c.in_ok-written.written.items c.args.size (omega arith) c.in_ok-written.ensures.full)

pub returns-clause-table : goal.returns-clause-table
returns-clause-table c =
    let taken : c.in_ok-taken.taken.items ≡ takers (claims (map (λ w. w.items) c.in_ok-written.written.items) (one_turn_each (length c.in_ok-written.written.items)) c.args.size) c.args.size =
    rw (c.as_slice.ensures.value, c.slots-slots.ensures.value) at c.in_ok-taken.ensures in
    let made : c.in_ok-owners.owners.items ≡ map (λ o. unwrap_or o 0) (takers (claims (map (λ w. w.items) c.in_ok-written.written.items) (one_turn_each (length c.in_ok-written.written.items)) c.args.size) c.args.size) =
    c.in_ok-owners.ensures ∙ ap (λ (os : List (Option ℕ)). map (λ o. unwrap_or o 0) os) (c.as_slice-2.ensures.value ∙ taken) in
    made_is_maglev (λ (w : Vec ℕ Global). w.items) c.in_ok-written.written.items c.args.lists.now c.args.size c.in_ok-owners.owners.items c.in_ok-written.ensures.lists made

pub returns-then-is_empty-clause-no_backends : goal.returns-then-is_empty-clause-no_backends
returns-then-is_empty-clause-no_backends c = grind (arith, common_steps)

pub returns-then-is_empty-clause-too_many : goal.returns-then-is_empty-clause-too_many
returns-then-is_empty-clause-too_many c = grind (arith, common_steps)

pub returns-then-is_empty-clause-table : goal.returns-then-is_empty-clause-table
returns-then-is_empty-clause-table c = grind (arith, common_steps)

pub returns-then-lists-slots-clause-no_backends : goal.returns-then-lists-slots-clause-no_backends
returns-then-lists-slots-clause-no_backends c = grind (arith, common_steps)

pub returns-then-lists-slots-clause-too_many : goal.returns-then-lists-slots-clause-too_many
returns-then-lists-slots-clause-too_many c = grind (arith, common_steps)

pub returns-then-lists-slots-clause-table : goal.returns-then-lists-slots-clause-table
returns-then-lists-slots-clause-table c = grind (arith, common_steps)

pub returns-in_err-written-clause-no_backends : goal.returns-in_err-written-clause-no_backends
returns-in_err-written-clause-no_backends c = grind (arith, common_steps)

pub returns-in_err-written-clause-too_many : goal.returns-in_err-written-clause-too_many
returns-in_err-written-clause-too_many c = grind (arith, common_steps)

pub returns-in_err-written-clause-table : goal.returns-in_err-written-clause-table
returns-in_err-written-clause-table c = grind (arith, common_steps)

pub returns-in_err-taken-clause-no_backends : goal.returns-in_err-taken-clause-no_backends
returns-in_err-taken-clause-no_backends c = grind (arith, common_steps)

pub returns-in_err-taken-clause-too_many : goal.returns-in_err-taken-clause-too_many
returns-in_err-taken-clause-too_many c = grind (arith, common_steps)

pub returns-in_err-taken-clause-table : goal.returns-in_err-taken-clause-table
returns-in_err-taken-clause-table c = grind (arith, common_steps)

pub returns-in_err-owners-clause-no_backends : goal.returns-in_err-owners-clause-no_backends
returns-in_err-owners-clause-no_backends c = grind (arith, common_steps)

pub returns-in_err-owners-clause-too_many : goal.returns-in_err-owners-clause-too_many
returns-in_err-owners-clause-too_many c = grind (arith, common_steps)

pub returns-in_err-owners-clause-table : goal.returns-in_err-owners-clause-table
returns-in_err-owners-clause-table c = grind (arith, common_steps)

pub returns-clause-no_backends : goal.returns-clause-no_backends
returns-clause-no_backends c = grind (arith, common_steps)

pub returns-clause-too_many : goal.returns-clause-too_many
returns-clause-too_many c = grind (arith, common_steps)
