use Rattle.std.proofs.Common.{◌∙◌, sym, arith, map, drop}
use Rattle.simulation.specs.Sent.{time_of}
use Rattle.simulation.specs.Wires.{lent_record}
use Rattle.timed_steps.specs.Timed.{count_until}
use Rattle.run_scenario.proofs.Places.{counts_on, counts_up_to}
use Rattle.run_scenario.proofs.settled.place_until.Goals as goal

pub loop-at-preserved : goal.loop-at-preserved
loop-at-preserved c = record {
  within = omega (arith, c.loop-at-test.true, c.len.ensures);
  rest = counts_on c.args.first c.args.end c.args.records.now c.loop-at.at c.args.from (count_until c.args.first c.args.end (drop c.args.from (map time_of c.args.records.now)))
      (lent_record c.at.result) c.time.result c.at.ensures c.time.ensures (sym c.is_before.ensures ∙ c.if-is_before.true) c.loop-at.invariant.rest;
}

pub returns-else-is_before : goal.returns-else-is_before
returns-else-is_before c =
    counts_up_to c.args.first c.args.end c.args.records.now c.loop-at.at c.args.from (count_until c.args.first c.args.end (drop c.args.from (map time_of c.args.records.now)))
    (lent_record c.at.result) c.time.result c.at.ensures c.time.ensures (sym c.is_before.ensures ∙ c.if-is_before.false) c.loop-at.invariant.rest
