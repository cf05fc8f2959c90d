use Rattle.std.proofs.Common.{◌≡◌, ◌<◌, ℕ, false, length, ap, sym, ◌∙◌, arith}
use Rattle.std.specs.Prelude.{slice_set}
use Rattle.std.proofs.lemmas.List.{length-set}
use Rattle.thread_roles.specs.declared.ring.Output.{Output}
use Rattle.thread_roles.specs.Taken.{weigh, weight_of, closing}
use Rattle.thread_roles.proofs.Taking.{taken_more, taken_same}
use Rattle.thread_roles.proofs.mux.Gathered.pass.Goals as goal
use Rattle.thread_roles.proofs.mux.Gathered.pass.Goals.{in-Ok, in-Err}

pub loop-at-preserved : goal.loop-at-preserved
loop-at-preserved c =
    let had = c.loop-at.invariant in
    let below : c.loop-at.at < length c.loop-at.rings.items = omega (arith, c.loop-at-test.true, c.len-at-end.ensures, had.rings) in
    let rings : length (slice_set c.loop-at.rings.items c.loop-at.at c.pop.new.self) ≡ length c.args.rings.now.items = length-set c.loop-at.rings.items c.loop-at.at c.pop.new.self ∙ had.rings in
    elim c.match-pop.branch [
      | in-Ok w ↦
          let more = λ (f : Output → ℕ). taken_more f c.loop-at.rings.items c.loop-at.at c.index_mut-one.result.now c.pop.new.self w.in-Ok.output below c.index_mut-one.ensures.value w.in-Ok.ensures.ok.0 in
          record {
            failed = λ e. had.failed (w.take.ensures.failed (ap (λ s. s.failed) (sym w.self-is) ∙ e));
            kept = λ h e.
                let f : w.take.new.self.failed ≡ false = ap (λ s. s.failed) (sym w.self-is) ∙ e in
                let same : weigh h c.match-pop.self.sent.items ≡ weigh h w.take.new.self.sent.items = ap (λ s. weigh h s.sent.items) w.self-is in
                omega (arith, w.take.ensures.kept h f, had.kept h (w.take.ensures.failed f), more (weight_of h), same);
            marks =
                let same : c.match-pop.self.left ≡ w.take.new.self.left = ap (λ s. s.left) w.self-is in
                omega (arith, w.take.ensures.marks, had.marks, more closing, same);
            rings = rings;
          }
      | in-Err w ↦
          let none = λ (f : Output → ℕ). taken_same f c.loop-at.rings.items c.loop-at.at c.index_mut-one.result.now c.pop.new.self below c.index_mut-one.ensures.value w.in-Err.ensures.empty.0 in
          record {
            failed = λ e. had.failed (ap (λ s. s.failed) (sym w.self-is) ∙ e);
            kept = λ h e.
                let same : weigh h c.match-pop.self.sent.items ≡ weigh h c.loop-at.self.sent.items = ap (λ s. weigh h s.sent.items) w.self-is in
                omega (arith, had.kept h (ap (λ s. s.failed) (sym w.self-is) ∙ e), none (weight_of h), same);
            marks =
                let same : c.match-pop.self.left ≡ c.loop-at.self.left = ap (λ s. s.left) w.self-is in
                omega (arith, had.marks, none closing, same);
            rings = rings;
          }
    ]
