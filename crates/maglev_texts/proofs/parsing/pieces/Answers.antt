use Rattle.std.proofs.lemmas.List.{map-append}
use Rattle.std.proofs.Common.{append_assoc, arith, ◌≡◌, ◌++◌, ◌+◌, ◌-◌, take, drop, map, ap, sym, ◌∙◌}
use Rattle.maglev_texts.proofs.Cuts.{piece_ends, piece_goes}
use Rattle.maglev_texts.proofs.parsing.pieces.Goals as goal
use Rattle.maglev_texts.proofs.parsing.pieces.Goals.{then-other-byte+in_ok-push, else-other-byte}

pub loop-i-preserved : goal.loop-i-preserved
loop-i-preserved c =
    elim c.if-other-byte.branch [
      | then-other-byte+in_ok-push w ↦
          let e = piece_ends c.args.byte c.args.text.now (take (c.loop-i.i - c.loop-i.start) (drop c.loop-i.start c.args.text.now)) c.loop-i.i c.loop-i-test.true w.if-other-byte.true in
          record {
            order = omega arith;
            rest =
                let items = w.in_ok-push.ensures.items in
                let none : c.loop-i.i + 1 - (c.loop-i.i + 1) ≡ 0 = omega arith in
                rw (w.found-is, w.start-is, items, none) (simp (map-append, append_assoc) (ap (λ ps. map (λ w. w.now) c.loop-i.found.items ++ ps) (sym e) ∙ c.loop-i.invariant.rest));
          }
      | else-other-byte w ↦
          let e = piece_goes c.args.byte c.args.text.now c.loop-i.start c.loop-i.i c.loop-i.invariant.order c.loop-i-test.true w.if-other-byte.false in
          record { order = omega arith; rest = rw (w.found-is, w.start-is) (ap (λ ps. map (λ w. w.now) c.loop-i.found.items ++ ps) (sym e) ∙ c.loop-i.invariant.rest) }
    ]
