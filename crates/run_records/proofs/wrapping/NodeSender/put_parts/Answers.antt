use Rattle.std.proofs.Common.{◌≡◌, ◌∷◌, ℕ, List, length, subst, arith, rules}
use Rattle.std.specs.Prelude.{All}
use Rattle.std.proofs.lemmas.List.Elements.{All-head, All-rest}
use Rattle.std.proofs.lemmas.List.{take_all}
use Rattle.simulation.specs.Sent.{sent_by, Wrote}
use Rattle.simulation.proofs.Exits.{at_exit}
use Rattle.thread_records.specs.Lean.{send_of}
use Rattle.run_records.specs.declared.wrapping.Wrapped.{Wrapped}
use Rattle.run_records.specs.Traffic.{traffic_by, sent_by_numbers, IsWrapped}
use Rattle.run_records.proofs.Parts.{wrote_part, cut_in}
use Rattle.run_records.proofs.wrapping.NodeSender.put_parts.Goals as goal

pub put_part-requires-clause-wrapped : goal.put_part-requires-clause-wrapped
put_part-requires-clause-wrapped g c =
    let own : Wrapped → Type 0 = λ w. IsWrapped c.args.self.now c.args.numbers.now w in
    let is : c.loop-part.part-iterator.rest.items ≡ c.in-Some.part ∷ c.next.new.self.rest.items = search rules in
    All-head own c.in-Some.part c.next.new.self.rest.items (subst (λ (ws : List Wrapped). All own ws) is c.loop-part.invariant.2)

pub loop-part-preserved : goal.loop-part-preserved
loop-part-preserved g c =
    let own : Wrapped → Type 0 = λ w. IsWrapped c.args.self.now c.args.numbers.now w in
    let is : c.loop-part.part-iterator.rest.items ≡ c.in-Some.part ∷ c.next.new.self.rest.items = search rules in (
      c.in_ok-from.ensures.within,
      c.in_ok-from.ensures.ok _ c.loop-part.invariant.1,
      All-rest own c.in-Some.part c.next.new.self.rest.items c.loop-part.part-iterator.rest.items is c.loop-part.invariant.2,
    )

pub returns-in_err-send_numbers-clause-cut : goal.returns-in_err-send_numbers-clause-cut
returns-in_err-send_numbers-clause-cut g c =
    let numbers = c.args.numbers.now in
    let fault = c.in_err-send_numbers.field-0.0 in
    at_exit c.from_residual-in_err-send_numbers.result fault _ c.from_residual-in_err-send_numbers.ensures.1
    (cut_in (λ n. sent_by (traffic_by c.args.self.now.sender) (send_of c.args.self.now.node.now.outcomes.items n)) numbers c.loop-part.from (length numbers) c.loop-part.invariant.0 fault _ _ _ c.loop-part.invariant.1 c.in_err-send_numbers.ensures.cut)

pub returns-clause-ok : goal.returns-clause-ok
returns-clause-ok g c =
    let numbers : List ℕ = c.args.numbers.now in
    subst (λ (l : List ℕ). Wrote (g.O.Sink.tape c.args.output.now) (g.O.Sink.tape c.send_numbers.new.output) (sent_by_numbers c.args.self.now l)) (take_all (length numbers) numbers (omega arith))
    (wrote_part (λ n. sent_by (traffic_by c.args.self.now.sender) (send_of c.args.self.now.node.now.outcomes.items n)) numbers c.loop-part.from (length numbers) c.loop-part.invariant.0 _ _ _ c.loop-part.invariant.1 c.in_ok-send_numbers.ensures.ok)
