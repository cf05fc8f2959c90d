use Rattle.std.proofs.Common.{ℕ, List, map, arith, subst}
use Rattle.cluster_node.specs.declared.outcomes.Outcome.{Outcome}
use Rattle.simulation.specs.Sent.{Sending, Wrote, WroteUntil}
use Rattle.simulation.proofs.Exits.{at_exit}
use Rattle.thread_records.specs.Lean.{send_of}
use Rattle.run_records.specs.Traffic.{traffic_by}
use Rattle.run_records.specs.Sends.{sent_of}
use Rattle.run_records.proofs.Numbers.{sent_lives}
use Rattle.run_records.proofs.Walks.{wrote_more, cut_at, wrote_all}
use Rattle.run_records.proofs.sender.Sender.send_lives.Goals as goal

pub loop-life-preserved : goal.loop-life-preserved
loop-life-preserved g c =
    let t = traffic_by c.args.self.now in
    let os : List Outcome = c.args.node.now.outcomes.items in
    wrote_more (λ v. sent_of t (map (λ n. send_of os n) v.items)) c.sent-lives.result.now c.loop-life.life-index c.life-item.result (omega arith) c.life-item.is _ _ _ c.loop-life.invariant
    (subst (λ (l : List ℕ). Wrote (g.O.Sink.tape c.loop-life.output) (g.O.Sink.tape c.send_life.new.output) (sent_of t (map (λ n. send_of os n) l))) c.as_slice.ensures.value c.in_ok-send_life.ensures.ok)

pub returns-in_err-send_life-clause-cut : goal.returns-in_err-send_life-clause-cut
returns-in_err-send_life-clause-cut g c =
    let t = traffic_by c.args.self.now in
    let os : List Outcome = c.args.node.now.outcomes.items in
    let fault = c.in_err-send_life.field-0.0 in
    let one = subst (λ (l : List ℕ). WroteUntil fault (g.O.Sink.tape c.loop-life.output) (g.O.Sink.tape c.send_life.new.output) (sent_of t (map (λ n. send_of os n) l))) c.as_slice.ensures.value c.in_err-send_life.ensures.cut in
    at_exit c.from_residual.result fault _ c.from_residual.ensures.1
    (subst (λ (l : List Sending). WroteUntil fault (g.O.Sink.tape c.args.output.now) (g.O.Sink.tape c.send_life.new.output) l) (sent_lives t os c.sent-lives.result.now c.args.node.now.sent.items c.sent-lives.ensures)
    (cut_at (λ v. sent_of t (map (λ n. send_of os n) v.items)) c.sent-lives.result.now c.loop-life.life-index c.life-item.result (omega arith) c.life-item.is fault _ _ _ c.loop-life.invariant one))

pub returns-clause-ok : goal.returns-clause-ok
returns-clause-ok g c =
    let t = traffic_by c.args.self.now in
    let os : List Outcome = c.args.node.now.outcomes.items in
    subst (λ (l : List Sending). Wrote (g.O.Sink.tape c.args.output.now) (g.O.Sink.tape c.loop-life.output) l) (sent_lives t os c.sent-lives.result.now c.args.node.now.sent.items c.sent-lives.ensures)
    (wrote_all (λ v. sent_of t (map (λ n. send_of os n) v.items)) c.sent-lives.result.now c.loop-life.life-index _ _ (omega arith) c.loop-life.invariant)
