use Rattle.std.proofs.Common.{◌≡◌, ◌<◌, ◌≤◌, ◌+◌, true, false, ℕ, List, Vec, Global, length, map, get_or, sym, ap, ◌∙◌, arith, subst}
use Rattle.std.specs.Prelude.{slice_range}
use Rattle.std.proofs.lemmas.Bool.{true≢false}
use Rattle.cluster_node.specs.declared.outcomes.Outcome.{Outcome}
use Rattle.thread_records.specs.Lean.{send_of}
use Rattle.thread_records.specs.Merges.{is_restart, all_from, IsMerge}
use Rattle.thread_records.proofs.Gathered.{AreMergesFrom, skip_to, skip_from, cut_to, cut_one, cut_from, cut_none, last_to, last_from, last_count, tail_is, same_merge, from_range, event_at}
use Rattle.thread_records.proofs.merging.merged.Goals as goal
use Rattle.thread_records.proofs.merging.merged.Goals.{then-is_restart+else-life-sent+else-not-is_merge, else-is_restart}

pub loop-at-preserved : goal.loop-at-preserved
loop-at-preserved c =
    let sent : List (Vec ℕ Global) = c.args.sent.now in
    let outcomes : List Outcome = c.args.outcomes.now.items in
    let had = c.loop-at.invariant in
    let o : Outcome = c.send_of.result in
    let within : c.loop-at.at < length outcomes = omega (arith, c.loop-at-test.true, c.len-at-end.ensures) in
    let is : o ≡ get_or outcomes c.loop-at.at o = event_at outcomes c.loop-at.at o within c.send_of.ensures in
    elim c.if-is_restart.branch [
      | then-is_restart+else-life-sent+else-not-is_merge w ↦
          let one : IsMerge (map (λ n. send_of outcomes n) w.index-sent-life.result.items) (slice_range outcomes c.loop-at.start c.loop-at.at) = same_merge outcomes _ _ _ _ w.as_slice.ensures.value w.of-ended.ensures (w.is_merge.ensures.0 w.if-not-is_merge.false) in
          let more : c.loop-at.life < length sent = omega (arith, w.if-life-sent.false) in
          let cut : is_restart o ≡ true = sym c.is_restart.ensures ∙ w.if-is_restart.true in
          record {
            places = omega (arith, w.start-is);
            lives = omega (arith, w.life-is, w.if-life-sent.false);
            rest = λ m. had.rest (cut_to (λ (v : Vec ℕ Global). map (λ n. send_of c.args.outcomes.now.items n) v.items) sent outcomes c.loop-at.start c.loop-at.at c.loop-at.life o had.places within is w.index-sent-life.result cut more w.index-sent-life.is one
                (subst (λ (n : ℕ). AreMergesFrom (λ (v : Vec ℕ Global). map (λ n. send_of c.args.outcomes.now.items n) v.items) sent outcomes (c.loop-at.life + 1) n (c.loop-at.at + 1)) w.start-is
                (subst (λ (n : ℕ). AreMergesFrom (λ (v : Vec ℕ Global). map (λ n. send_of c.args.outcomes.now.items n) v.items) sent outcomes n c.if-is_restart.start (c.loop-at.at + 1)) w.life-is m)));
            whole = λ all.
                subst (λ (n : ℕ). AreMergesFrom (λ (v : Vec ℕ Global). map (λ n. send_of c.args.outcomes.now.items n) v.items) sent outcomes n c.if-is_restart.start (c.loop-at.at + 1)) (sym w.life-is)
                (subst (λ (n : ℕ). AreMergesFrom (λ (v : Vec ℕ Global). map (λ n. send_of c.args.outcomes.now.items n) v.items) sent outcomes (c.loop-at.life + 1) n (c.loop-at.at + 1)) (sym w.start-is)
                (cut_from (λ (v : Vec ℕ Global). map (λ n. send_of c.args.outcomes.now.items n) v.items) sent outcomes c.loop-at.start c.loop-at.at c.loop-at.life o had.places within is w.index-sent-life.result cut more w.index-sent-life.is (had.whole all)));
          }
      | else-is_restart w ↦
          let on : is_restart o ≡ false = sym c.is_restart.ensures ∙ w.if-is_restart.false in
          record {
            places = omega (arith, w.start-is, had.places);
            lives = omega (arith, w.life-is, had.lives);
            rest = λ m. had.rest (skip_to (λ (v : Vec ℕ Global). map (λ n. send_of c.args.outcomes.now.items n) v.items) sent outcomes c.loop-at.start c.loop-at.at c.loop-at.life o had.places within is on
                (subst (λ (n : ℕ). AreMergesFrom (λ (v : Vec ℕ Global). map (λ n. send_of c.args.outcomes.now.items n) v.items) sent outcomes c.loop-at.life n (c.loop-at.at + 1)) w.start-is
                (subst (λ (n : ℕ). AreMergesFrom (λ (v : Vec ℕ Global). map (λ n. send_of c.args.outcomes.now.items n) v.items) sent outcomes n c.if-is_restart.start (c.loop-at.at + 1)) w.life-is m)));
            whole = λ all.
                subst (λ (n : ℕ). AreMergesFrom (λ (v : Vec ℕ Global). map (λ n. send_of c.args.outcomes.now.items n) v.items) sent outcomes n c.if-is_restart.start (c.loop-at.at + 1)) (sym w.life-is)
                (subst (λ (n : ℕ). AreMergesFrom (λ (v : Vec ℕ Global). map (λ n. send_of c.args.outcomes.now.items n) v.items) sent outcomes c.loop-at.life n (c.loop-at.at + 1)) (sym w.start-is)
                (skip_from (λ (v : Vec ℕ Global). map (λ n. send_of c.args.outcomes.now.items n) v.items) sent outcomes c.loop-at.start c.loop-at.at c.loop-at.life o had.places within is on (had.whole all)));
          }
    ]

pub returns-then-life-sent : goal.returns-then-life-sent
returns-then-life-sent c =
    let outcomes : List Outcome = c.args.outcomes.now.items in
    let o : Outcome = c.send_of.result in
    let within : c.loop-at.at < length outcomes = omega (arith, c.loop-at-test.true, c.len-at-end.ensures) in
    let is : o ≡ get_or outcomes c.loop-at.at o = event_at outcomes c.loop-at.at o within c.send_of.ensures in (
      (λ t. absurd (true≢false (sym t))),
      (λ all. absurd (cut_none (λ (v : Vec ℕ Global). map (λ n. send_of c.args.outcomes.now.items n) v.items) c.args.sent.now outcomes c.loop-at.start c.loop-at.at c.loop-at.life o c.loop-at.invariant.places within is (sym c.is_restart.ensures ∙ c.if-is_restart.true) (omega (arith, c.if-life-sent.true)) (c.loop-at.invariant.whole all))),
    )

pub returns-then-not-is_merge : goal.returns-then-not-is_merge
returns-then-not-is_merge c =
    let outcomes : List Outcome = c.args.outcomes.now.items in
    let o : Outcome = c.send_of.result in
    let within : c.loop-at.at < length outcomes = omega (arith, c.loop-at-test.true, c.len-at-end.ensures) in
    let is : o ≡ get_or outcomes c.loop-at.at o = event_at outcomes c.loop-at.at o within c.send_of.ensures in
    let more : c.loop-at.life < length c.args.sent.now = omega (arith, c.if-life-sent.false) in (
      (λ t. absurd (true≢false (sym t))),
      (λ all. absurd (true≢false (sym (c.is_merge.ensures.1 (same_merge outcomes _ _ _ _ (sym c.as_slice.ensures.value) (sym c.of-ended.ensures)
          (cut_one (λ (v : Vec ℕ Global). map (λ n. send_of c.args.outcomes.now.items n) v.items) c.args.sent.now outcomes c.loop-at.start c.loop-at.at c.loop-at.life o c.loop-at.invariant.places within is c.index-sent-life.result (sym c.is_restart.ensures ∙ c.if-is_restart.true) more c.index-sent-life.is (c.loop-at.invariant.whole all)))) ∙ c.if-not-is_merge.true))),
    )

pub returns-then-life-sent-2 : goal.returns-then-life-sent-2
returns-then-life-sent-2 c =
    let past : length c.args.outcomes.now.items ≤ c.loop-at.at = omega (arith, c.loop-at-test.false, c.len-at-end.ensures) in (
      (λ t. absurd (true≢false (sym t))),
      (λ all. absurd (c.if-life-sent-2.true (last_count (λ (v : Vec ℕ Global). map (λ n. send_of c.args.outcomes.now.items n) v.items) c.args.sent.now c.args.outcomes.now.items c.loop-at.start c.loop-at.at c.loop-at.life past c.loop-at.invariant.places (c.loop-at.invariant.whole all)))),
    )

pub returns : goal.returns
returns c =
    let outcomes : List Outcome = c.args.outcomes.now.items in
    let past : length outcomes ≤ c.loop-at.at = omega (arith, c.loop-at-test.false, c.len-at-end.ensures) in
    let tail = c.of-last.ensures ∙ tail_is outcomes c.loop-at.start c.len.result c.len.ensures in
    let numbers = c.as_slice-2.ensures.value in (
      (λ t. c.loop-at.invariant.rest (last_to (λ (v : Vec ℕ Global). map (λ n. send_of c.args.outcomes.now.items n) v.items) c.args.sent.now outcomes c.loop-at.start c.loop-at.at c.loop-at.life past c.loop-at.invariant.places c.index-sent-life-2.result c.if-life-sent-2.false c.index-sent-life-2.is
          (same_merge outcomes _ _ _ _ numbers tail (c.is_merge-2.ensures.0 t)))),
      (λ all. c.is_merge-2.ensures.1 (same_merge outcomes _ _ _ _ (sym numbers) (sym tail)
          (last_from (λ (v : Vec ℕ Global). map (λ n. send_of c.args.outcomes.now.items n) v.items) c.args.sent.now outcomes c.loop-at.start c.loop-at.at c.loop-at.life past c.loop-at.invariant.places c.index-sent-life-2.result c.if-life-sent-2.false c.index-sent-life-2.is (c.loop-at.invariant.whole all)))),
    )

pub is_merge-requires-clause-own : goal.is_merge-requires-clause-own
is_merge-requires-clause-own c =
    ap (all_from c.senders-workers.result) c.of-ended.ensures ∙ from_range c.senders-workers.result c.loop-at.start c.loop-at.at c.args.outcomes.now.items c.senders-workers.ensures.from

pub is_merge-requires-2-clause-own : goal.is_merge-requires-2-clause-own
is_merge-requires-2-clause-own c =
    ap (all_from c.senders-workers.result) c.of-last.ensures ∙ from_range c.senders-workers.result c.loop-at.start _ c.args.outcomes.now.items c.senders-workers.ensures.from
