use Rattle.std.proofs.Common.{◌≡◌, map, refl, sym, ◌∙◌, arith}
use Rattle.std.proofs.lemmas.List.{length-map}
use Rattle.std.proofs.lemmas.Bool.{true≢false}
use borrow.Author.Count.{below_more}
use Rattle.thread_records.specs.Journals.{placed_on}
use Rattle.thread_records.specs.Ends.{all_handled, handled_by, ServesPlaced}
use Rattle.thread_records.proofs.Ends.{handled_at, placed_at, serves_by}
use Rattle.thread_records.proofs.journal.closing.all_serve_placed.Goals as goal

pub returns-then-not-serves_placed : goal.returns-then-not-serves_placed
returns-then-not-serves_placed g c = (
  (λ t. absurd (cc)),
  (λ all.
      let here : c.as_slice.result.now ≡ placed_on (map (λ v. v.items) c.args.placed.now) c.loop-at.at = placed_at (λ v. v.items) c.args.placed.now c.loop-at.at c.index-placed-at.result c.as_slice.result.now c.loop-at-test.true c.index-placed-at.is c.as_slice.ensures.value in
      let there : c.handled.result.now.items ≡ handled_by (all_handled c.args.workers.now) c.loop-at.at = handled_at c.args.workers.now c.loop-at.at c.index-workers-at.result c.handled.result.now.items (omega (arith, c.loop-at-test.true, c.if-workers-placed.false)) c.index-workers-at.is c.handled.ensures.handled in
      absurd (true≢false (sym (c.serves_placed.ensures.1 (serves_by c.args.drained _ _ _ _ (sym here) (sym there) (all.each c.loop-at.at (omega (arith, length-map c.args.placed.now (λ v. v.items), c.loop-at-test.true))))) ∙ c.if-not-serves_placed.true))),
)

pub loop-at-preserved : goal.loop-at-preserved
loop-at-preserved g c =
    let here : c.as_slice.result.now ≡ placed_on (map (λ v. v.items) c.args.placed.now) c.loop-at.at = placed_at (λ v. v.items) c.args.placed.now c.loop-at.at c.index-placed-at.result c.as_slice.result.now c.loop-at-test.true c.index-placed-at.is c.as_slice.ensures.value in
    let there : c.handled.result.now.items ≡ handled_by (all_handled c.args.workers.now) c.loop-at.at = handled_at c.args.workers.now c.loop-at.at c.index-workers-at.result c.handled.result.now.items (omega (arith, c.loop-at-test.true, c.if-workers-placed.false)) c.index-workers-at.is c.handled.ensures.handled in
    below_more (λ w. ServesPlaced c.args.drained (placed_on (map (λ v. v.items) c.args.placed.now) w) (handled_by (all_handled c.args.workers.now) w)) c.loop-at.at c.loop-at.invariant
    (serves_by c.args.drained _ _ _ _ here there (c.serves_placed.ensures.0 c.if-not-serves_placed.false))

pub returns : goal.returns
returns g c = (
  (λ t. record {
    workers = length-map c.args.workers.now (λ w. w.handled) ∙ c.if-workers-placed.false ∙ sym (length-map c.args.placed.now (λ v. v.items));
    each = λ w lt. c.loop-at.invariant w (omega (arith, lt, length-map c.args.placed.now (λ v. v.items), c.loop-at-test.false));
  }),
  (λ all. refl),
)
