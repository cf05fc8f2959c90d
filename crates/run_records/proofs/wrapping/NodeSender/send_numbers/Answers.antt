use Rattle.std.proofs.Common.{◌≡◌, ◌<◌, ℕ, List, length, get_or, arith, subst}
use Rattle.std.proofs.lemmas.List.{get_or_default}
use Rattle.cluster_node.specs.declared.outcomes.Outcome.{Outcome}
use Rattle.simulation.specs.Sent.{sent_by, Wrote, WroteUntil}
use Rattle.simulation.proofs.Exits.{at_exit}
use Rattle.thread_records.specs.Lean.{send_of}
use Rattle.run_records.specs.Traffic.{traffic_by}
use Rattle.run_records.proofs.Walks.{wrote_more, cut_at, wrote_all}
use Rattle.run_records.proofs.wrapping.NodeSender.send_numbers.Goals as goal

pub loop-number-preserved : goal.loop-number-preserved
loop-number-preserved g c =
    let t = traffic_by c.args.self.now.sender in
    let numbers : List ℕ = c.args.numbers.now in
    let i : ℕ = c.loop-number.number-index in
    let lt : i < length numbers = c.loop-number-test.true in
    let number : ℕ = get_or numbers i 0 in
    let is : number ≡ get_or numbers i number = get_or_default numbers i 0 number lt in
    wrote_more (λ n. sent_by (traffic_by c.args.self.now.sender) (send_of c.args.self.now.node.now.outcomes.items n)) numbers i number lt is _ _ _ c.loop-number.invariant
    (subst (λ (o : Outcome). Wrote (g.O.Sink.tape c.loop-number.output) (g.O.Sink.tape c.send_outcome.new.output) (sent_by t o)) c.send_of.ensures c.in_ok-send_outcome.ensures.ok)

pub returns-in_err-send_outcome-clause-cut : goal.returns-in_err-send_outcome-clause-cut
returns-in_err-send_outcome-clause-cut g c =
    let t = traffic_by c.args.self.now.sender in
    let numbers : List ℕ = c.args.numbers.now in
    let i : ℕ = c.loop-number.number-index in
    let lt : i < length numbers = c.loop-number-test.true in
    let number : ℕ = get_or numbers i 0 in
    let is : number ≡ get_or numbers i number = get_or_default numbers i 0 number lt in
    let fault = c.in_err-send_outcome.field-0.0 in
    let one = subst (λ (o : Outcome). WroteUntil fault (g.O.Sink.tape c.loop-number.output) (g.O.Sink.tape c.send_outcome.new.output) (sent_by t o)) c.send_of.ensures c.in_err-send_outcome.ensures.cut in
    at_exit c.from_residual.result fault _ c.from_residual.ensures.1
    (cut_at (λ n. sent_by (traffic_by c.args.self.now.sender) (send_of c.args.self.now.node.now.outcomes.items n)) numbers i number lt is fault _ _ _ c.loop-number.invariant one)

pub returns-clause-ok : goal.returns-clause-ok
returns-clause-ok g c = wrote_all (λ n. sent_by (traffic_by c.args.self.now.sender) (send_of c.args.self.now.node.now.outcomes.items n)) c.args.numbers.now c.loop-number.number-index _ _ (omega arith) c.loop-number.invariant
