use Rattle.std.proofs.Common.{◌≡◌, ◌<◌, ◌≤◌, ◌+◌, ◌++◌, ◌∷◌, ℕ, List, length, map, take, drop, get_or, sym, ap, ◌∙◌, arith, subst}
use Rattle.std.proofs.lemmas.List.{length-map}
use Rattle.cluster_node.specs.declared.outcomes.Outcome.{Outcome}
use Rattle.cluster_node.specs.declared.outcomes.Outcome.TheVariants.{Installed}
use Rattle.thread_records.specs.Lean.{send_of}
use Rattle.thread_records.specs.Merges.{sends_of}
use Rattle.std.proofs.lemmas.Bool.{true≢false}
use Rattle.thread_records.proofs.Gathered.{same_more, same_skip, same_none, same_next, same_end, number_at}
use Rattle.thread_records.proofs.merging.same_sends.Goals as goal
use Rattle.thread_records.proofs.merging.same_sends.Goals.{then-is_sent_by+in-Some+else-not-is_same, else-is_sent_by}

pub loop-number-preserved : goal.loop-number-preserved
loop-number-preserved c =
    let w : ℕ = c.args.worker in
    let one : List Outcome = map (λ n. send_of c.args.outcomes.now.items n) c.args.sent.now in
    let life : List Outcome = c.args.life.now in
    let i : ℕ = c.loop-number.number-index in
    let item : Outcome = c.send_of.result in
    let within : i < length one = omega (arith, c.loop-number-test.true, length-map c.args.sent.now (λ n. send_of c.args.outcomes.now.items n)) in
    let is : item ≡ get_or one i item = number_at c.args.outcomes.now.items c.args.sent.now i _ item c.loop-number-test.true c.send_of.ensures in
    elim c.if-is_sent_by.branch [
      | then-is_sent_by+in-Some+else-not-is_same b ↦ (
        omega (arith, b.at-is, b.in-Some.ensures.within),
        subst (λ (n : ℕ). sends_of w life ≡ sends_of w (take (i + 1) one) ++ sends_of w (drop n life)) (sym b.at-is)
            (same_more w one life i c.loop-number.at (b.in-Some.place + 1) item b.at.result within is (sym c.is_sent_by.ensures ∙ b.if-is_sent_by.true)
            (b.is_same.ensures.0 b.if-not-is_same.false ∙ b.send_of-one.ensures ∙ sym c.send_of.ensures) c.loop-number.invariant.1
            (b.in-Some.ensures.next Installed ∙ ap (λ (o : Outcome). o ∷ sends_of w (drop (b.in-Some.place + 1) life)) (sym b.at.ensures))),
      )
      | else-is_sent_by b ↦ (
        omega (arith, b.at-is, c.loop-number.invariant.0),
        subst (λ (n : ℕ). sends_of w life ≡ sends_of w (take (i + 1) one) ++ sends_of w (drop n life)) (sym b.at-is)
            (same_skip w one life i c.loop-number.at item within is (sym c.is_sent_by.ensures ∙ b.if-is_sent_by.false) c.loop-number.invariant.1),
      )
    ]

pub returns-in-None : goal.returns-in-None
returns-in-None c =
    let one : List Outcome = map (λ n. send_of c.args.outcomes.now.items n) c.args.sent.now in
    let i : ℕ = c.loop-number.number-index in
    let item : Outcome = c.send_of.result in
    let within : i < length one = omega (arith, c.loop-number-test.true, length-map c.args.sent.now (λ n. send_of c.args.outcomes.now.items n)) in
    let is : item ≡ get_or one i item = number_at c.args.outcomes.now.items c.args.sent.now i _ item c.loop-number-test.true c.send_of.ensures in (
      (λ t. absurd (true≢false (sym t))),
      (λ same. absurd (same_none c.args.worker one c.args.life.now i c.loop-number.at c.loop-number.invariant.1 item within is (sym c.is_sent_by.ensures ∙ c.if-is_sent_by.true) c.in-None.ensures.next same)),
    )

pub returns-then-not-is_same : goal.returns-then-not-is_same
returns-then-not-is_same c =
    let one : List Outcome = map (λ n. send_of c.args.outcomes.now.items n) c.args.sent.now in
    let i : ℕ = c.loop-number.number-index in
    let item : Outcome = c.send_of.result in
    let within : i < length one = omega (arith, c.loop-number-test.true, length-map c.args.sent.now (λ n. send_of c.args.outcomes.now.items n)) in
    let is : item ≡ get_or one i item = number_at c.args.outcomes.now.items c.args.sent.now i _ item c.loop-number-test.true c.send_of.ensures in (
      (λ t. absurd (true≢false (sym t))),
      (λ same. absurd (true≢false (sym (c.is_same.ensures.1 (same_next c.args.worker one c.args.life.now i c.loop-number.at c.loop-number.invariant.1 item c.at.result _ within is (sym c.is_sent_by.ensures ∙ c.if-is_sent_by.true)
          (c.in-Some.ensures.next Installed ∙ ap (λ (o : Outcome). o ∷ sends_of c.args.worker (drop (c.in-Some.place + 1) c.args.life.now)) (sym c.at.ensures)) same ∙ c.send_of.ensures ∙ sym c.send_of-one.ensures)) ∙ c.if-not-is_same.true))),
    )

pub returns : goal.returns
returns c =
    let one : List Outcome = map (λ n. send_of c.args.outcomes.now.items n) c.args.sent.now in
    let past : length one ≤ c.loop-number.number-index = omega (arith, c.loop-number-test.false, length-map c.args.sent.now (λ n. send_of c.args.outcomes.now.items n)) in
    same_end c.args.worker one c.args.life.now c.loop-number.number-index c.loop-number.at c.next_of-2.result c.is_none.result c.loop-number.invariant.1 past c.next_of-2.ensures.next c.is_none.ensures
