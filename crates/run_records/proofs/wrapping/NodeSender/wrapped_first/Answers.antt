use Rattle.std.proofs.Common.{◌≡◌, ◌<◌, ℕ, List, Some, length, get_or, subst}
use Rattle.std.proofs.lemmas.List.{get_or_default}
use Rattle.cluster_node.specs.declared.outcomes.Outcome.{Outcome}
use Rattle.pcap_file.specs.Host.{taped}
use Rattle.simulation.specs.Sent.{sent_by, Wrote}
use Rattle.thread_records.specs.Lean.{send_of}
use Rattle.run_records.specs.Traffic.{traffic_by}
use Rattle.run_records.proofs.Walks.{wrote_more}
use Rattle.run_records.proofs.wrapping.NodeSender.wrapped_first.Goals as goal

pub loop-at-preserved : goal.loop-at-preserved
loop-at-preserved c =
    let t = traffic_by c.args.self.now.sender in
    let numbers : List ℕ = c.args.numbers.now in
    let i : ℕ = c.loop-at.at in
    let lt : i < length numbers = c.loop-at-test.true in
    let number : ℕ = get_or numbers i 0 in
    let is : number ≡ get_or numbers i number = get_or_default numbers i 0 number lt in
    wrote_more (λ n. sent_by (traffic_by c.args.self.now.sender) (send_of c.args.self.now.node.now.outcomes.items n)) numbers i number lt is _ _ _ c.loop-at.invariant
    (subst (λ (o : Outcome). Wrote (taped (Some c.loop-at.texts.writer.items) c.loop-at.texts.counts) (taped (Some c.send_outcome.new.output.writer.items) c.send_outcome.new.output.counts) (sent_by t o)) c.send_of-outcome.ensures c.in_ok-send_outcome.ensures.ok)
