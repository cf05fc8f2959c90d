use Rattle.std.proofs.Common.{◌≡◌, sym, ◌∙◌, ap, subst, ◌-◌, length, set, List, ℕ, arith}
use Rattle.std.proofs.lemmas.List.{length-set}
use Rattle.connection_table.specs.Picked.{picked}
use Rattle.connection_table.specs.Tables.{EachFlowOnce}
use Rattle.connection_table.specs.Tied.{flow_hash, touches_of}
use Rattle.connection_table.proofs.Tied.{AreHashed, replaced, replaced_hashed, replaced_once}
use Rattle.connection_table.proofs.pairs.Pairs.replace_oldest.Goals as goal

pub returns-clause-touches : goal.returns-clause-touches
returns-clause-touches c =
    let t = c.requires.tied in
    let o = c.oldest-place.ensures in
    ap (picked _) c.promote.ensures.after ∙ replaced c.args.self.now.pairs.items c.args.self.now.order c.oldest-place.result c.args.flow c.args.entry c.are_places.ensures t.ordered c.requires.some o.last o.some (omega (arith, o.within, t.ordered))

pub returns-clause-tied : goal.returns-clause-tied
returns-clause-tied c =
    let t = c.requires.tied in
    let o = c.oldest-place.ensures in
    let i : ℕ = c.oldest-place.result - 1 in
    let hash : ℕ = flow_hash c.args.self.now.key c.args.flow in
    let hashes : c.rehash.new.self ≡ set c.args.self.now.buckets i hash = c.rehash.ensures ∙ ap (λ (n : ℕ). set c.args.self.now.buckets i n) c.requires.hash in
    let long : length (set c.args.self.now.pairs.items i (c.args.flow, c.args.entry)) ≡ length c.args.self.now.pairs.items = length-set c.args.self.now.pairs.items i (c.args.flow, c.args.entry) in
    record {
      ordered = c.promote.ensures.len ∙ t.ordered ∙ sym long;
      known = let many : length c.rehash.new.self ≡ length c.args.self.now.buckets = ap length hashes ∙ length-set c.args.self.now.buckets i hash in omega (arith, long, many, t.known);
      hashed = subst (λ (hs : List ℕ). AreHashed (flow_hash c.args.self.now.key) hs (set c.args.self.now.pairs.items i (c.args.flow, c.args.entry))) (sym hashes)
          (replaced_hashed (flow_hash c.args.self.now.key) c.args.self.now.buckets c.args.self.now.pairs.items c.oldest-place.result c.args.flow c.args.entry t.hashed t.known o.some (omega (arith, o.within, t.ordered)));
      once = subst EachFlowOnce (sym (returns-clause-touches c)) (replaced_once c.args.flow c.args.entry (length c.args.self.now.pairs.items - 1) (touches_of c.args.self.now) c.requires.absent t.once);
    }
