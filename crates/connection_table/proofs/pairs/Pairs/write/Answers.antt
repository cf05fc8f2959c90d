use Rattle.std.proofs.Common.{sym, ◌∙◌, ap, subst, ◌≤◌, ◌-◌, length, ℕ}
use Rattle.std.proofs.lemmas.List.{length-set}
use Rattle.connection_table.specs.Picked.{picked}
use Rattle.connection_table.specs.Tables.{EachFlowOnce}
use Rattle.connection_table.specs.Tied.{flow_hash, touches_of}
use Rattle.connection_table.proofs.Once.{in_front}
use Rattle.connection_table.proofs.Tied.{written, written_hashed}
use Rattle.connection_table.proofs.pairs.Pairs.write.Goals as goal

pub returns-clause-touches : goal.returns-clause-touches
returns-clause-touches c =
    let t = c.requires.tied in
    let p = c.requires.place in
    ap (picked _) c.promote.ensures.after ∙ written c.args.self.now.pairs.items c.args.self.now.order c.args.place c.args.flow c.args.entry c.are_places.ensures t.ordered t.once p.some p.within p.own

pub returns-clause-tied : goal.returns-clause-tied
returns-clause-tied c =
    let t = c.requires.tied in
    let p = c.requires.place in
    record {
      ordered = c.promote.ensures.len ∙ t.ordered ∙ sym (length-set c.args.self.now.pairs.items (c.args.place - 1) (c.args.flow, c.args.entry));
      known = subst (λ (n : ℕ). n ≤ length c.args.self.now.buckets) (sym (length-set c.args.self.now.pairs.items (c.args.place - 1) (c.args.flow, c.args.entry))) t.known;
      hashed = written_hashed (flow_hash c.args.self.now.key) c.args.self.now.buckets c.args.self.now.pairs.items c.args.place c.args.flow c.args.entry t.hashed p.some p.within p.own;
      once = subst EachFlowOnce (sym (returns-clause-touches c)) (in_front c.args.flow c.args.entry (touches_of c.args.self.now) t.once);
    }
