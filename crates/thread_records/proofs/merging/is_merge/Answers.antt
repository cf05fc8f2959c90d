use Rattle.std.proofs.Common.{List, map, sym, ◌∙◌, arith}
use Rattle.cluster_node.specs.declared.outcomes.Outcome.{Outcome}
use Rattle.thread_records.specs.Lean.{send_of}
use Rattle.thread_records.proofs.Gathered.{merge_of, from_numbers, sends_numbered}
use Rattle.thread_records.proofs.merging.is_merge.Goals as goal

pub returns : goal.returns
returns c =
    let sent : List Outcome = map (λ n. send_of c.args.outcomes.now.items n) c.args.sent.now in (
      (λ t. merge_of c.args.workers sent c.args.life.now (sends_numbered c.args.outcomes.now.items c.args.sent.now ∙ sym c.all_sent.ensures ∙ t) (from_numbers c.args.workers c.args.outcomes.now.items c.args.sent.now c.requires.from) c.requires.own
          (λ w h. c.loop-worker.invariant w (omega (arith, h, c.loop-worker-test.false)))),
      (λ m. c.all_sent.ensures ∙ sym (sends_numbered c.args.outcomes.now.items c.args.sent.now) ∙ m.only),
    )
