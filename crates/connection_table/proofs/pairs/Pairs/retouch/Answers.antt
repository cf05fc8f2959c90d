use Rattle.std.proofs.Common.{◌≡◌, ◌∷◌, sym, ◌∙◌, ap, subst, ◌≤◌, ◌-◌, length, set, ℕ}
use Rattle.std.proofs.lemmas.List.{length-set}
use Rattle.connection_table.specs.Picked.{pair_at, picked}
use Rattle.connection_table.specs.Recency.{at_clock}
use Rattle.connection_table.specs.Tables.{EachFlowOnce}
use Rattle.connection_table.specs.Tied.{flow_hash, touches_of}
use Rattle.connection_table.specs.Touches.{Touch}
use Rattle.connection_table.proofs.Once.{in_front}
use Rattle.connection_table.proofs.Picked.{others}
use Rattle.connection_table.proofs.Tied.{AreHashed, touched, touched_pair, written, written_hashed}
use Rattle.connection_table.proofs.pairs.Pairs.retouch.Goals as goal

pub returns-clause-touches : goal.returns-clause-touches
returns-clause-touches c =
    let t = c.requires.tied in
    let p = c.requires.place in
    let u : Touch = c.index_mut-pair.result.now in
    ap (picked _) c.promote.ensures.after
    ∙ ap (λ (v : Touch). picked (set c.args.self.now.pairs.items (c.args.place - 1) v) (c.args.place ∷ others c.args.place c.args.self.now.order)) (touched_pair c.args.self.now.pairs.items c.args.place c.args.flow c.args.clock u p.some p.within p.own c.index_mut-pair.ensures.value)
    ∙ touched c.args.self.now.pairs.items c.args.self.now.order c.args.place c.args.flow c.args.clock c.are_places.ensures t.ordered t.once p.some p.within p.own p.last

pub returns-clause-tied : goal.returns-clause-tied
returns-clause-tied c =
    let t = c.requires.tied in
    let p = c.requires.place in
    let u : Touch = c.index_mut-pair.result.now in
    let e = at_clock c.args.clock (pair_at c.args.self.now.pairs.items c.args.place).1 in
    let same : (u.0, at_clock c.args.clock u.1) ≡ (c.args.flow, e) = touched_pair c.args.self.now.pairs.items c.args.place c.args.flow c.args.clock u p.some p.within p.own c.index_mut-pair.ensures.value in
    record {
      ordered = c.promote.ensures.len ∙ t.ordered ∙ sym (length-set c.args.self.now.pairs.items (c.args.place - 1) (u.0, at_clock c.args.clock u.1));
      known = subst (λ (n : ℕ). n ≤ length c.args.self.now.buckets) (sym (length-set c.args.self.now.pairs.items (c.args.place - 1) (u.0, at_clock c.args.clock u.1))) t.known;
      hashed = subst (λ (v : Touch). AreHashed (flow_hash c.args.self.now.key) c.args.self.now.buckets (set c.args.self.now.pairs.items (c.args.place - 1) v)) (sym same)
          (written_hashed (flow_hash c.args.self.now.key) c.args.self.now.buckets c.args.self.now.pairs.items c.args.place c.args.flow e t.hashed p.some p.within p.own);
      once = subst EachFlowOnce (sym (ap (picked _) c.promote.ensures.after ∙ ap (λ (v : Touch). picked (set c.args.self.now.pairs.items (c.args.place - 1) v) (c.args.place ∷ others c.args.place c.args.self.now.order)) same
          ∙ written c.args.self.now.pairs.items c.args.self.now.order c.args.place c.args.flow e c.are_places.ensures t.ordered t.once p.some p.within p.own))
          (in_front c.args.flow e (touches_of c.args.self.now) t.once);
    }
