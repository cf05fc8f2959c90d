use Rattle.std.proofs.Common.{◌<◌, length, arith}
use Rattle.thread_records.proofs.Gathered.{senders_step, event_at}
use Rattle.thread_records.proofs.merging.senders.Goals as goal

pub loop-at-preserved : goal.loop-at-preserved
loop-at-preserved c =
    let within : c.loop-at.at < length c.args.outcomes.now.items = omega (arith, c.loop-at-test.true, c.len-at-end.ensures) in
    record {
      from = senders_step c.loop-at.limit c.max-limit.result c.sender_limit.result c.args.outcomes.now.items c.loop-at.at c.send_of.result within (event_at c.args.outcomes.now.items c.loop-at.at c.send_of.result within c.send_of.ensures)
          (omega (arith, c.max-limit.ensures)) (omega (arith, c.max-limit.ensures)) c.loop-at.invariant.from c.sender_limit.ensures.from;
      limit = omega (arith, c.max-limit.ensures, c.loop-at.invariant.limit, c.sender_limit.ensures.limit);
    }
