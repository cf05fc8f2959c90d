use Rattle.std.proofs.Common.{◌≡◌, ◌+◌, ◌++◌, List, length, sym, subst, arith, rules}
use Rattle.std.proofs.lemmas.List.{append-nil}
use Rattle.cluster_node.specs.declared.outcomes.Outcome.{Outcome}
use Rattle.thread_records.specs.Works.{WorkView}
use Rattle.thread_records.specs.Ends.{all_handled}
use Rattle.thread_roles.specs.Counts.{Counts, served_from}
use Rattle.node_life.proofs.Telling.{is_ok_on}
use Rattle.node_life.proofs.life.muster.Goals as goal

pub loop-hand-preserved : goal.loop-hand-preserved
loop-hand-preserved g c =
    let had = c.loop-hand.invariant in
    let one = c.muster_one-ended.ensures in
    let more : length c.loop-hand.hand-iterator.rest.items ≡ length c.next.new.self.rest.items + 1 = search rules in
    record {
      parts = λ none. let both = c.first_told-told.ensures.none none in let here = is_ok_on _ c.muster_one-ended.result both.1 one.all in omega (arith, here, had.parts both.0, more);
      counts = λ none os n h. let both = c.first_told-told.ensures.none none in is_ok_on _ c.muster_one-ended.result both.1 (one.counts os n (had.counts both.0 os n h));
      fault = c.first_told-told.ensures.refusal had.fault one.fault;
    }

pub loop-hand-init : goal.loop-hand-init
loop-hand-init g c = record {
  parts = λ none. search rules;
  counts = λ none os n h. subst (λ (ws : List (WorkView g.row.S.Denot)). Counts c.args.tally.now.lost c.args.tally.now.shares (os ++ served_from n 0 (all_handled ws))) (sym c.roomy-records.ensures)
      (subst (λ (l : List Outcome). Counts c.args.tally.now.lost c.args.tally.now.shares l) (sym (append-nil os)) h);
  fault = tt;
}

pub returns-in-None-first_told-clause-all : goal.returns-in-None-first_told-clause-all
returns-in-None-first_told-clause-all g c =
    let both = c.first_told.ensures.none c.in-None-first_told.is in
    let enough = is_ok_on _ c.fill-filled.result both.1 c.fill-filled.ensures.all in
    omega (arith, enough, c.workers-workers.ensures.workers)

pub returns-in-None-first_told-clause-parts : goal.returns-in-None-first_told-clause-parts
returns-in-None-first_told-clause-parts g c =
    let both = c.first_told.ensures.none c.in-None-first_told.is in
    let none : length c.loop-hand.hand-iterator.rest.items ≡ 0 = search rules in
    omega (arith, c.loop-hand.invariant.parts both.0, none)

pub returns-in-None-first_told-clause-counts : goal.returns-in-None-first_told-clause-counts
returns-in-None-first_told-clause-counts g c = λ os n h.
    let both = c.first_told.ensures.none c.in-None-first_told.is in
    subst (λ (l : List Outcome). Counts c.loop-hand.tally.lost c.loop-hand.tally.shares (os ++ l)) (sym (is_ok_on _ c.fill-filled.result both.1 (c.fill-filled.ensures.counts n)))
    (c.loop-hand.invariant.counts both.0 os n h)
