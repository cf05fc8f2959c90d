use Rattle.std.proofs.Common.{◌≡◌, List, length, ap, sym, ◌∙◌, subst, eqb-true}
use Rattle.std.specs.List.{All}
use Rattle.hash_laws.specs.Any.{plain_of}
use Rattle.maglev_table.specs.Turns.{Preference}
use Rattle.maglev_table.specs.Weights.{weighted_maglev}
use Rattle.selection.specs.Picks.{preferences}
use Rattle.selection.proofs.Tables.{all_of_size}
use Rattle.rollout_plan.proofs.SlotCounts.{slots_of_some, slots_of_none, above_zero}
use Rattle.rollout_plan.proofs.slots.table_slots.Goals as goal

pub returns-then-is_empty-clause-slots : goal.returns-then-is_empty-clause-slots
returns-then-is_empty-clause-slots c =
    let none : length c.args.ups.now ≡ 0 = eqb-true _ 0 (sym c.is_empty.ensures ∙ c.if-is_empty.true) in
    c.new.ensures.items ∙ slots_of_none (plain_of c.args.rule.now.hash) c.args.rule.now.size c.args.ups.now c.args.weights.now none

pub populate-requires-clause-sized : goal.populate-requires-clause-sized
populate-requires-clause-sized c =
    subst (λ (ps : List Preference). All (λ p. p.size ≡ c.args.rule.now.size) ps) (sym (c.as_slice.ensures.value ∙ c.in_ok-lists.ensures)) (all_of_size (plain_of c.args.rule.now.hash) c.args.rule.now.size c.args.ups.now)

pub returns-in-Ok-clause-slots : goal.returns-in-Ok-clause-slots
returns-in-Ok-clause-slots c =
    let lists : c.as_slice.result.now ≡ preferences (plain_of c.args.rule.now.hash) c.args.rule.now.size c.args.ups.now = c.as_slice.ensures.value ∙ c.in_ok-lists.ensures in
    let some = above_zero (length c.args.ups.now) (sym c.is_empty.ensures ∙ c.if-is_empty.false) in
    c.in_ok-owners_in-in-Ok.ensures.owners ∙ c.in-Ok.ensures.table ∙ ap (λ (ps : List Preference). weighted_maglev ps c.args.weights.now c.args.rule.now.size) lists
    ∙ slots_of_some (plain_of c.args.rule.now.hash) c.args.rule.now.size c.args.ups.now c.args.weights.now some
