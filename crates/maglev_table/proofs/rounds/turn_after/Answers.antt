use Rattle.std.proofs.Common.{length, ◌+◌, ◌∙◌, ap, sym}
use Rattle.maglev_table.specs.Weights.{or_next_round, IsTurn}
use Rattle.maglev_table.proofs.Passes.{next_round_not, round_is}
use Rattle.maglev_table.proofs.rounds.turn_after.Goals as goal
use Rattle.std.proofs.Common.{arith}
use Rattle.std.proofs.lemmas.Grind.{common_steps}

pub returns-in-Some-clause-next : goal.returns-in-Some-clause-next
returns-in-Some-clause-next c =
    next_round_not (length c.args.weights.now) c.args.weights.now c.in-Some.next.pass c.in-Some.next.who c.in-Some.ensures.turn
    ∙ ap (or_next_round (length c.args.weights.now) c.args.weights.now) c.in-Some.ensures.same

pub returns-in-None-clause-next : goal.returns-in-None-clause-next
returns-in-None-clause-next c =
    sym (round_is (length c.args.weights.now) c.args.weights.now) ∙ ap (or_next_round (length c.args.weights.now) c.args.weights.now) (sym (c.turn_from.ensures.none c.in-None.is))

pub returns-in-Some-clause-turn : goal.returns-in-Some-clause-turn
returns-in-Some-clause-turn c = grind (arith, common_steps)

pub returns-in-None-clause-turn : goal.returns-in-None-clause-turn
returns-in-None-clause-turn c = grind (arith, common_steps)

pub returns-then-has_turn-clause-next : goal.returns-then-has_turn-clause-next
returns-then-has_turn-clause-next c =
    let has = c.has_turn.ensures c.if-has_turn.true in
    let turn : IsTurn (length c.args.weights.now) c.args.weights.now c.args.turn.pass (c.args.turn.who + 1) = record { first = c.requires.turn.first; last = c.requires.turn.last; named = has.0; has = has.1 } in
    next_round_not (length c.args.weights.now) c.args.weights.now c.args.turn.pass (c.args.turn.who + 1) turn
