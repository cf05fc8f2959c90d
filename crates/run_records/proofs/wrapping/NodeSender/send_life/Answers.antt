use Rattle.std.proofs.Common.{ℕ, ◌+◌, List, sym, subst, arith}
use Rattle.std.proofs.lemmas.List.{take_all}
use Rattle.cluster_node.specs.declared.outcomes.Outcome.{Outcome}
use Rattle.simulation.specs.Sent.{Sending, sent_by, Wrote, WroteUntil}
use Rattle.simulation.proofs.Exits.{at_exit}
use Rattle.thread_records.specs.Lean.{send_of}
use Rattle.run_records.specs.Traffic.{traffic_by, sent_by_numbers}
use Rattle.run_records.proofs.Numbers.{sent_numbers}
use Rattle.run_records.proofs.Parts.{wrote_part, cut_in}
use Rattle.run_records.proofs.wrapping.NodeSender.send_life.Goals as goal

pub returns-in_err-send_part-clause-cut : goal.returns-in_err-send_part-clause-cut
returns-in_err-send_part-clause-cut g c =
    let t = traffic_by c.args.self.now.sender in
    let os : List Outcome = c.args.self.now.node.now.outcomes.items in
    let fault = c.in_err-send_part.field-0.0 in
    let from : ℕ = c.loop-from.from in
    at_exit c.from_residual.result fault _ c.from_residual.ensures.1
    (subst (λ (l : List Sending). WroteUntil fault (g.O.Sink.tape c.args.output.now) (g.O.Sink.tape c.send_part.new.output) l) (sym (sent_numbers t os c.args.life.now))
    (cut_in (λ n. sent_by (traffic_by c.args.self.now.sender) (send_of c.args.self.now.node.now.outcomes.items n)) c.args.life.now from (from + c.min.result) (omega arith) fault _ _ _ c.loop-from.invariant.1 c.in_err-send_part.ensures.cut))

pub loop-from-preserved : goal.loop-from-preserved
loop-from-preserved g c =
    let from : ℕ = c.loop-from.from in (
      omega (arith, c.min.ensures, c.loop-from.invariant.0),
      wrote_part (λ n. sent_by (traffic_by c.args.self.now.sender) (send_of c.args.self.now.node.now.outcomes.items n)) c.args.life.now from (from + c.min.result) (omega arith) _ _ _ c.loop-from.invariant.1 c.in_ok-send_part.ensures.ok,
    )

pub returns-clause-ok : goal.returns-clause-ok
returns-clause-ok g c =
    let t = traffic_by c.args.self.now.sender in
    let os : List Outcome = c.args.self.now.node.now.outcomes.items in
    let life : List ℕ = c.args.life.now in
    subst (λ (l : List Sending). Wrote (g.O.Sink.tape c.args.output.now) (g.O.Sink.tape c.loop-from.output) l) (sym (sent_numbers t os life))
    (subst (λ (l : List ℕ). Wrote (g.O.Sink.tape c.args.output.now) (g.O.Sink.tape c.loop-from.output) (sent_by_numbers c.args.self.now l)) (take_all c.loop-from.from life (omega (arith, c.loop-from-test.false))) c.loop-from.invariant.1)
