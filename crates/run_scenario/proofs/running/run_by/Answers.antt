use Rattle.std.proofs.Common.{◌≡◌, ◌∙◌, ◌+◌, List, length, ap, subst, inr, arith, length-append}
use Rattle.std.specs.Io.KnownBytes.{Appends}
use Rattle.simulation.specs.Sent.{Sending, capture_text}
use Rattle.simulation.specs.Simulated.{CaptureUntil}
use Rattle.pcap_file.specs.Format.{Record}
use Rattle.timed_steps.specs.declared.TimedStep.{TimedStep}
use Rattle.run_records.specs.Firsts.{IsSplit}
use Rattle.run_scenario.specs.PrivateFirsts.{kept_for, Settle}
use Rattle.run_scenario.proofs.Known.{known_steps}
use Rattle.run_scenario.proofs.Ruled.{keeps}
use Rattle.run_scenario.proofs.InWords.{same_sends}
use Rattle.run_scenario.proofs.running.run_by.Goals as goal

pub run_over-requires-clause-few : goal.run_over-requires-clause-few
run_over-requires-clause-few g c =
    let whole = c.in_ok-captured.ensures.whole in
    let many : length whole.0 ≡ length c.in_ok-captured.captured.records + length whole.3.rest = ap (λ (l : List Record). length l) whole.3.is ∙ length-append c.in_ok-captured.captured.records whole.3.rest in
    omega (arith, many, whole.2, whole.3.count)

pub returns-in-Ok-clause-ran : goal.returns-in-Ok-clause-ran
returns-in-Ok-clause-ran g c =
    let whole = c.in_ok-captured.ensures.whole in
    let split = subst (λ (ss : List TimedStep). IsSplit (Settle ss) (kept_for ss) whole.0 c.in_ok-captured.captured.records c.in_ok-captured.captured.others) c.as_slice.ensures.value whole.3 in
    let same = same_sends c.args.scenario.now.scenario c.wire_of-wire.result c.in_ok-captured.captured.head.link c.in_ok-captured.captured.records c.as_slice-nodes.result.now c.in_ok-done.done.nodes.items
    c.wire_of-wire.ensures.nodes c.wire_of-wire.ensures.link c.wire_of-wire.ensures.check c.as_slice-nodes.ensures.value
    ∙ c.in_ok-done.ensures.sends whole.0 split in
    record {
      known = known_steps c.args.scenario.now.scenario c.args.scenario.now.supported;
      head = c.in_ok-captured.captured.head;
      records = _;
      ending = c.in_ok-captured.captured.ending;
      read = whole.1;
      nodes = c.in_ok-done.done.nodes.items;
      history = (c.in_ok-done.ensures.over whole.0 split).history;
      run = (c.in_ok-done.ensures.over whole.0 split).run;
      written = subst (λ (l : List Sending). Appends (g.O.Sink.tape c.args.output.now).bytes (g.O.Sink.tape c.write_capture.new.output).bytes (capture_text l)) same c.in-Ok.ensures.written.0;
      unfailed = c.in-Ok.ensures.written.1;
      report = (c.in_ok-done.ensures.over whole.0 split).report;
      counted = (c.in_ok-done.ensures.over whole.0 split).counted;
      kept = keeps c.args.scenario.now.scenario c.in_ok-captured.captured.head.link _ c.in_ok-done.done.nodes.items (c.in_ok-done.ensures.over whole.0 split).history
          c.slots-slots.ensures.listed c.keeps_doubles_out.ensures (c.in_ok-done.ensures.over whole.0 split).run.joins;
      paced = c.in_ok-done.ensures.paced;
    }

pub returns-clause-stopped : goal.returns-clause-stopped
returns-clause-stopped g c =
    let whole = c.in_ok-captured.ensures.whole in
    let split = subst (λ (ss : List TimedStep). IsSplit (Settle ss) (kept_for ss) whole.0 c.in_ok-captured.captured.records c.in_ok-captured.captured.others) c.as_slice.ensures.value whole.3 in
    let same = same_sends c.args.scenario.now.scenario c.wire_of-wire.result c.in_ok-captured.captured.head.link c.in_ok-captured.captured.records c.as_slice-nodes.result.now c.in_ok-done.done.nodes.items
    c.wire_of-wire.ensures.nodes c.wire_of-wire.ensures.link c.wire_of-wire.ensures.check c.as_slice-nodes.ensures.value
    ∙ c.in_ok-done.ensures.sends whole.0 split in
    inr (inr (record {
      head = c.in_ok-captured.captured.head;
      records = _;
      ending = c.in_ok-captured.captured.ending;
      read = whole.1;
      nodes = c.in_ok-done.done.nodes.items;
      history = (c.in_ok-done.ensures.over whole.0 split).history;
      run = (c.in_ok-done.ensures.over whole.0 split).run;
      not_reading = c.in-Err.ensures.named;
      wrote = subst (λ (l : List Sending). CaptureUntil c.in-Err.fault (g.O.Sink.tape c.args.output.now) (g.O.Sink.tape c.write_capture.new.output) l) same c.in-Err.ensures.cut;
    }))
