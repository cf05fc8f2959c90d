use Rattle.std.proofs.Common.{◌≡◌, ◌<◌, ◌∙◌, ℕ, false, true, List, length, map, sym, subst, arith}
use Rattle.std.specs.List.{list_any}
use Rattle.std.proofs.lemmas.List.{length-map}
use Rattle.simulation.specs.Sent.{time_of}
use Rattle.simulation.specs.Wires.{lent_record}
use Rattle.run_scenario.specs.PrivateFirsts.{counts_more}
use Rattle.run_scenario.proofs.Enough.{not_settled}
use Rattle.run_scenario.proofs.Places.{first_time, all_settled, stops_at, ends_at}
use Rattle.run_scenario.proofs.settled.is_settled.Goals as goal

pub returns-then-count_more : goal.returns-then-count_more
returns-then-count_more c =
    let times : List ℕ = map time_of c.args.records.now in
    let count : c.len-count.result ≡ length times = c.len-count.ensures ∙ sym (length-map c.args.records.now time_of) in
    let more : list_any (counts_more c.len-count.result) c.args.steps.now ≡ true = sym c.count_more.ensures ∙ c.if-count_more.true in
    sym (not_settled times c.args.steps.now (subst (λ (n : ℕ). list_any (counts_more n) c.args.steps.now ≡ true) count more))

pub returns-in-None : goal.returns-in-None
returns-in-None c =
    let times : List ℕ = map time_of c.args.records.now in
    let there : 0 < length times = omega (arith, length-map c.args.records.now time_of, c.len-count.ensures, c.if-count-eq0.false) in
    all_settled times c.args.steps.now c.time-first.result false there (first_time c.args.records.now (lent_record c.at.result) c.time-first.result c.at.ensures c.time-first.ensures)
    (sym c.loop-step.invariant.rest
    ∙ stops_at c.time-first.result c.loop-step.at c.loop-step.step-index times c.args.steps.now c.step-item.result c.loop-step-test.true c.step-item.is (sym c.in-None.is ∙ c.place_behind.ensures))

pub returns : goal.returns
returns c =
    let times : List ℕ = map time_of c.args.records.now in
    let there : 0 < length times = omega (arith, length-map c.args.records.now time_of, c.len-count.ensures, c.if-count-eq0.false) in
    all_settled times c.args.steps.now c.time-first.result true there (first_time c.args.records.now (lent_record c.at.result) c.time-first.result c.at.ensures c.time-first.ensures)
    (sym c.loop-step.invariant.rest ∙ ends_at c.time-first.result c.loop-step.at c.loop-step.step-index times c.args.steps.now c.loop-step-test.false)
