use Rattle.std.proofs.Common.{[], ◌≡◌, ◌≤◌, ◌<◌, ℕ, Bool, List, true, false, length, map, sym, ap, ◌∙◌, arith, subst}
use Rattle.std.proofs.lemmas.List.{length-set, get_or-map}
use Rattle.steering.specs.Steering.{home_of, refuses}
use Rattle.thread_records.specs.Journals.{placed_on}
use Rattle.thread_records.proofs.Placed.{none_refuse}
use Rattle.thread_records.proofs.Tries.{try_taken, try_none, try_next, due_more}
use Rattle.std.proofs.lemmas.Bool.{true≢false}
use Rattle.thread_records.proofs.rings.steer.Goals as goal
use Rattle.thread_records.proofs.rings.steer.Goals.{then-len-ring, else-len-ring, else-not-refused-worker-via-then-not-refused-worker+else-offer, else-not-refused-worker-via-else-not-refused-worker}

pub returns-then-offer-clause-placed : goal.returns-then-offer-clause-placed
returns-then-offer-clause-placed g c =
    let t = c.loop-refused.invariant.trying in
    let none : refuses c.loop-refused.refused c.loop-refused.worker ≡ false = c.if-not-refused-worker.true in
    sym (try_taken (home_of (g.H.FlowHash.plain c.args.hash.now) c.args.steerer.now.workers c.args.item.flow) c.args.steerer.now c.loop-refused.refused c.loop-refused.worker c.loop-refused.steerer t none)

pub returns-in-RingsFull-clause-placed : goal.returns-in-RingsFull-clause-placed
returns-in-RingsFull-clause-placed g c =
    let t = c.loop-refused.invariant.trying in
    let long : c.loop-refused.worker < length c.loop-refused.refused = omega (arith, c.loop-refused.invariant.long, t.below, c.requires.limit) in
    sym (try_none (home_of (g.H.FlowHash.plain c.args.hash.now) c.args.steerer.now.workers c.args.item.flow) c.args.steerer.now c.loop-refused.refused c.loop-refused.worker c.loop-refused.steerer t c.next_try.new.self long c.next_try.ensures.after c.in-RingsFull.ensures.next)

pub loop-refused-preserved : goal.loop-refused-preserved
loop-refused-preserved g c =
    let t = c.loop-refused.invariant.trying in
    let long : c.loop-refused.worker < length c.loop-refused.refused = omega (arith, c.loop-refused.invariant.long, t.below, c.requires.limit) in
    record {
      trying = try_next (home_of (g.H.FlowHash.plain c.args.hash.now) c.args.steerer.now.workers c.args.item.flow) c.args.steerer.now c.loop-refused.refused c.loop-refused.worker c.loop-refused.steerer t c.next_try.new.self long c.next_try.ensures.after c.in-Worker.next c.in-Worker.ensures.next (subst (λ (n : ℕ). c.in-Worker.next < n) t.workers c.in-Worker.ensures.below);
      long = length-set c.loop-refused.refused c.loop-refused.worker true ∙ c.loop-refused.invariant.long;
      paced = λ p. absurd (elim c.else-not-refused-worker.branch [
        | else-not-refused-worker-via-then-not-refused-worker+else-offer w ↦ true≢false (sym (w.offer.ensures.takes p) ∙ w.if-offer.false)
        | else-not-refused-worker-via-else-not-refused-worker w ↦ true≢false (sym w.if-not-refused-worker.false ∙ ap (λ (ms : List Bool). refuses ms c.loop-refused.worker) (c.loop-refused.invariant.paced p) ∙ none_refuse c.loop-refused.worker)
      ]);
      due = λ e. elim c.if-len-ring.branch [
        | then-len-ring w ↦ absurd (true≢false (sym w.early-is ∙ e))
        | else-len-ring w ↦
            let d = c.loop-refused.invariant.due (sym w.early-is ∙ e) in
            let within : c.loop-refused.worker < length c.args.taken.now = omega (arith, t.below, c.requires.lists) in
            let at : placed_on (map (λ v. v.items) c.args.taken.now) c.loop-refused.worker ≡ c.index-taken-worker.result.items =
            get_or-map (λ v. v.items) c.args.taken.now c.loop-refused.worker c.index-taken-worker.result [] within ∙ ap (λ v. v.items) (sym c.index-taken-worker.is) in
            let here : c.args.ring ≤ length (placed_on (map (λ v. v.items) c.args.taken.now) c.loop-refused.worker) = omega (arith, ap length at, c.len.ensures, w.if-len-ring.false, c.index-taken-worker.result.ok.0) in
            (d.0, due_more c.loop-refused.refused c.loop-refused.worker c.args.ring (map (λ v. v.items) c.args.taken.now) long here d.1)
      ];
    }
