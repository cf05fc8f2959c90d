use Rattle.std.proofs.Common.{◌+◌, ◌∙◌, arith}
use Rattle.simulation.specs.Sent.{sent_by}
use Rattle.simulation.proofs.Exits.{at_exit}
use Rattle.thread_records.specs.Lean.{send_of}
use Rattle.run_records.specs.Traffic.{traffic_by}
use Rattle.run_records.proofs.Parts.{wrote_part, cut_in}
use Rattle.run_records.proofs.wrapping.NodeSender.put_part.Goals as goal

pub returns-in_err-send_numbers-clause-cut : goal.returns-in_err-send_numbers-clause-cut
returns-in_err-send_numbers-clause-cut g c = λ begun wrote.
    let fault = c.in_err-send_numbers.field-0.0 in
    at_exit c.from_residual.result fault _ c.from_residual.ensures.1
    (cut_in (λ n. sent_by (traffic_by c.args.self.now.sender) (send_of c.args.self.now.node.now.outcomes.items n)) c.args.numbers.now c.args.from c.args.part.now.start (omega (arith, c.if-part-from.false)) fault begun _ _ wrote c.in_err-send_numbers.ensures.cut)

pub returns-in_err-put_text-clause-cut : goal.returns-in_err-put_text-clause-cut
returns-in_err-put_text-clause-cut g c = λ begun wrote.
    let numbers = c.args.numbers.now in
    let part = c.args.part.now in
    let fault = c.in_err-put_text.field-0.0 in
    let first = wrote_part (λ n. sent_by (traffic_by c.args.self.now.sender) (send_of c.args.self.now.node.now.outcomes.items n)) numbers c.args.from part.start (omega (arith, c.if-part-from.false)) begun _ _ wrote c.in_ok-send_numbers.ensures.ok in
    at_exit c.from_residual-in_err-put_text.result fault _ c.from_residual-in_err-put_text.ensures.1
    (cut_in (λ n. sent_by (traffic_by c.args.self.now.sender) (send_of c.args.self.now.node.now.outcomes.items n)) numbers part.start (part.start + part.count) (omega arith) fault begun _ _ first (c.in_err-put_text.ensures.cut _ (c.as_slice.ensures.value ∙ c.requires.wrapped.text)))

pub returns-clause-ok : goal.returns-clause-ok
returns-clause-ok g c = λ begun wrote.
    let numbers = c.args.numbers.now in
    let part = c.args.part.now in
    let first = wrote_part (λ n. sent_by (traffic_by c.args.self.now.sender) (send_of c.args.self.now.node.now.outcomes.items n)) numbers c.args.from part.start (omega (arith, c.if-part-from.false)) begun _ _ wrote c.in_ok-send_numbers.ensures.ok in
    wrote_part (λ n. sent_by (traffic_by c.args.self.now.sender) (send_of c.args.self.now.node.now.outcomes.items n)) numbers part.start (part.start + part.count) (omega arith) begun _ _ first (c.in_ok-put_text.ensures.ok _ (c.as_slice.ensures.value ∙ c.requires.wrapped.text))
