use Rattle.std.proofs.Common.{Bool, ◌+◌, ◌-◌, ◌∷◌, ℕ, subst, ◌∙◌, arith}
use Rattle.simulation.specs.PrivateSteps.{lose_of}
use Rattle.pcap_file.specs.declared.format.Head.{Head}
use Rattle.simulation.specs.PrivateGoing.{Shortened}
use Rattle.simulation.specs.PrivateStages.{Reached, still_to_lose}
use Rattle.simulation.proofs.Exits.{at_exit}
use Rattle.simulation.proofs.Reaching.{one_fewer, reached_turn, no_more_lost}
use Rattle.simulation.proofs.staging.Stage.lose.Goals as goal

pub lose_one-requires : goal.lose_one-requires
lose_one-requires g c = let f = c.requires.few in record { few = (f.0, f.1, c.loop.invariant.few f.0 f.2) }

pub returns-then-not-more-clause-few : goal.returns-then-not-more-clause-few
returns-then-not-more-clause-few g c = λ n h. c.in_ok-more.ensures.few n (c.loop.invariant.few n h)

pub returns-then-not-more-clause-reached : goal.returns-then-not-more-clause-reached
returns-then-not-more-clause-reached g c = λ cluster choice plan text begun out ss r.
    let k = c.args.count - (c.loop.counter + 1) in
    let here = subst (λ (m : ℕ). Reached cluster choice plan text begun (lose_of m ∷ ss) c.loop.self (g.I.Source.tape c.loop.input) out) (one_fewer c.args.count c.loop.counter (omega arith)) (c.loop.invariant.reached cluster choice plan text begun out ss r) in
    subst (λ (b : Bool). Reached cluster choice plan text begun (still_to_lose b k ss) c.lose_one.new.self (g.I.Source.tape c.lose_one.new.input) out) c.if-not-more.true (c.in_ok-more.ensures.reached cluster choice plan text begun out ss k here)

pub loop-preserved : goal.loop-preserved
loop-preserved g c = record {
  past = c.in_ok-more.ensures.past ∙ c.loop.invariant.past;
  spread = c.lose_one.ensures.spread ∙ c.loop.invariant.spread;
  few = λ n h. c.in_ok-more.ensures.few n (c.loop.invariant.few n h);
  head = c.in_ok-more.ensures.head ∙ c.loop.invariant.head;
  reached = λ cluster choice plan text begun out ss r.
      let k = c.args.count - (c.loop.counter + 1) in
      let here = subst (λ (m : ℕ). Reached cluster choice plan text begun (lose_of m ∷ ss) c.loop.self (g.I.Source.tape c.loop.input) out) (one_fewer c.args.count c.loop.counter (omega arith)) (c.loop.invariant.reached cluster choice plan text begun out ss r) in
      subst (λ (b : Bool). Reached cluster choice plan text begun (still_to_lose b k ss) c.lose_one.new.self (g.I.Source.tape c.lose_one.new.input) out) c.if-not-more.false (c.in_ok-more.ensures.reached cluster choice plan text begun out ss k here);
}

pub returns-clause-reached : goal.returns-clause-reached
returns-clause-reached g c = λ cluster choice plan text begun out ss r.
    reached_turn cluster choice plan text begun (lose_of (c.args.count - c.loop.counter)) ss c.loop.self _ _ (c.loop.invariant.reached cluster choice plan text begun out ss r)
    (λ k seen h. h) (no_more_lost cluster choice plan (c.args.count - c.loop.counter) ss c.loop.self.play.trace (omega arith))

pub returns-in_err-more-clause-short : goal.returns-in_err-more-clause-short
returns-in_err-more-clause-short g c = λ cluster choice plan text begun out ss r.
    let here = c.loop.invariant.reached cluster choice plan text begun out ss r in
    at_exit c.from_residual.result c.in_err-more.field-0.0 _ c.from_residual.ensures.1
    (subst (λ (h : Head). Shortened cluster choice plan h text (g.I.Source.tape c.lose_one.new.input) begun out c.in_err-more.field-0.0) c.loop.invariant.head (c.in_err-more.ensures.short cluster choice plan text begun out (lose_of (c.args.count - c.loop.counter) ∷ ss) here))
