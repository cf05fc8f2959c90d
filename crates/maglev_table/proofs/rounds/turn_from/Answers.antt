use Rattle.std.proofs.Common.{◌≡◌, length, ◌∙◌, ap, arith, sym}
use Rattle.maglev_table.specs.Weights.{turns_from}
use Rattle.maglev_table.proofs.Passes.{skipped, pass_after, past_heaviest}
use Rattle.maglev_table.proofs.rounds.turn_from.Goals as goal

pub returns-then-who-weights-clause-same : goal.returns-then-who-weights-clause-same
returns-then-who-weights-clause-same c =
    sym (skipped (length c.args.weights.now) c.args.weights.now c.loop-here.here.pass c.loop-here.here.who c.next_in_pass-who.result c.next_in_pass-who.ensures.low c.next_in_pass-who.ensures.within c.next_in_pass-who.ensures.skipped)
    ∙ c.loop-here.invariant.same

pub loop-here-preserved : goal.loop-here-preserved
loop-here-preserved c =
    let last : c.next_in_pass-who.result ≡ length c.args.weights.now = omega (arith, c.next_in_pass-who.ensures.within, c.if-who-weights.false) in
    record {
      first = omega (arith, c.loop-here.invariant.first);
      last = omega (arith, c.loop-here-test.true, c.requires.limit);
      named = omega arith;
      same = sym (pass_after (length c.args.weights.now) c.args.weights.now c.args.most c.loop-here.here.pass c.requires.most c.requires.limit c.loop-here-test.true)
          ∙ ap (turns_from (length c.args.weights.now) c.args.weights.now c.loop-here.here.pass) (sym last)
          ∙ sym (skipped (length c.args.weights.now) c.args.weights.now c.loop-here.here.pass c.loop-here.here.who c.next_in_pass-who.result c.next_in_pass-who.ensures.low c.next_in_pass-who.ensures.within c.next_in_pass-who.ensures.skipped)
          ∙ c.loop-here.invariant.same;
    }

pub returns-clause-none : goal.returns-clause-none
returns-clause-none c = λ _. sym c.loop-here.invariant.same
    ∙ past_heaviest (length c.args.weights.now) c.args.weights.now c.args.most c.loop-here.here.pass c.loop-here.here.who c.requires.most (omega (arith, c.loop-here-test.false))
