use Rattle.std.proofs.Common.{◌≡◌, ◌<◌, List, Option, Vec, Global, map, length, get_or, Some, None, ℕ, ◌%◌, rules, arith, refl, ◌∙◌}
use Rattle.std.specs.Option.{is_none}
use Rattle.std.specs.List.{find}
use Rattle.std.proofs.lemmas.Nat.{mod_below}
use Rattle.maglev_table.specs.Turns.{takers, claims, one_turn_each, AreFull}
use Rattle.maglev_table.proofs.Steps.{TurnFacts, turn_facts, read_items}
use Rattle.maglev_table.proofs.Counts.{claims-zero, taken_at}
use Rattle.maglev_table.proofs.Claims.{takers-none}
use Rattle.maglev_table.proofs.plain.take_turns.Goals as goal
use Rattle.std.proofs.lemmas.Grind.{common_steps}

pub loop-turn-init : goal.loop-turn-init
loop-turn-init c = c.in_ok-slots.ensures.items_if_clones_equal (search rules) ∙ rw claims-zero (takers-none c.args.size)

abbrev items : Vec ℕ Global → List ℕ
items w = w.items

facts : (ls : List (Vec ℕ Global)) (m t : ℕ) (slots : List (Option ℕ)) (v : Vec ℕ Global) → 0 < length ls → t < m
    → AreFull m (map (λ w. w.items) ls) (one_turn_each (length ls)) → slots ≡ takers (claims (map (λ w. w.items) ls) (one_turn_each (length ls)) t) m
    → v ≡ get_or ls (t % length ls) v → TurnFacts (map (λ w. w.items) ls) (length ls) m t slots v.items
facts ls m t slots v some below full held is =
    turn_facts (map (λ w. w.items) ls) (length ls) m t slots v.items some below full held (read_items (λ (w : Vec ℕ Global). w.items) ls (t % length ls) v (mod_below t (length ls) some) is)

pub first_free_of-requires : goal.first_free_of-requires
first_free_of-requires c =
    let f = facts c.args.lists.now c.args.size c.loop-turn.turn c.loop-turn.slots.items c.index-lists-who.result c.requires.some c.loop-turn-test.true c.requires.full c.loop-turn.invariant c.index-lists-who.is in
    rw (c.as_slice.ensures.value, c.as_slice-in-loop-turn.ensures.value) f.within

pub unwrap-slot-requires : goal.unwrap-slot-requires
unwrap-slot-requires c =
    let f = facts c.args.lists.now c.args.size c.loop-turn.turn c.loop-turn.slots.items c.index-lists-who.result c.requires.some c.loop-turn-test.true c.requires.full c.loop-turn.invariant c.index-lists-who.is in
    let g : c.first_free_of.result ≡ find (λ slot. is_none (get_or c.as_slice-in-loop-turn.result.now slot None)) c.as_slice.result.now = c.first_free_of.ensures in
    let same : c.first_free_of.result ≡ Some (taken_at (map (λ w. w.items) c.args.lists.now) (one_turn_each (length c.args.lists.now)) c.loop-turn.turn) =
    g ∙ rw (c.as_slice.ensures.value, c.as_slice-in-loop-turn.ensures.value) f.found in
    rw same refl

pub index_mut-requires : goal.index_mut-requires
index_mut-requires c =
    let f = facts c.args.lists.now c.args.size c.loop-turn.turn c.loop-turn.slots.items c.index-lists-who.result c.requires.some c.loop-turn-test.true c.requires.full c.loop-turn.invariant c.index-lists-who.is in
    let g : c.first_free_of.result ≡ find (λ slot. is_none (get_or c.as_slice-in-loop-turn.result.now slot None)) c.as_slice.result.now = c.first_free_of.ensures in
    let same : c.first_free_of.result ≡ Some (taken_at (map (λ w. w.items) c.args.lists.now) (one_turn_each (length c.args.lists.now)) c.loop-turn.turn) =
    g ∙ rw (c.as_slice.ensures.value, c.as_slice-in-loop-turn.ensures.value) f.found in
    let slot : c.unwrap-slot.result ≡ taken_at (map (λ w. w.items) c.args.lists.now) (one_turn_each (length c.args.lists.now)) c.loop-turn.turn = cc (c.unwrap-slot.ensures) in
    omega (arith, f.inside, c.loop-turn.slots.ok.0)

pub loop-turn-preserved : goal.loop-turn-preserved
loop-turn-preserved c =
    let f = facts c.args.lists.now c.args.size c.loop-turn.turn c.loop-turn.slots.items c.index-lists-who.result c.requires.some c.loop-turn-test.true c.requires.full c.loop-turn.invariant c.index-lists-who.is in
    let g : c.first_free_of.result ≡ find (λ slot. is_none (get_or c.as_slice-in-loop-turn.result.now slot None)) c.as_slice.result.now = c.first_free_of.ensures in
    let same : c.first_free_of.result ≡ Some (taken_at (map (λ w. w.items) c.args.lists.now) (one_turn_each (length c.args.lists.now)) c.loop-turn.turn) =
    g ∙ rw (c.as_slice.ensures.value, c.as_slice-in-loop-turn.ensures.value) f.found in
    let slot : c.unwrap-slot.result ≡ taken_at (map (λ w. w.items) c.args.lists.now) (one_turn_each (length c.args.lists.now)) c.loop-turn.turn = cc (c.unwrap-slot.ensures) in
    rw slot f.step

pub returns-in_err-slots : goal.returns-in_err-slots
returns-in_err-slots c = grind (arith, common_steps)

pub returns : goal.returns
returns c = grind (arith, common_steps)
