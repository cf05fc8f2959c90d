use Rattle.std.proofs.Common.{◌≡◌, ◌+◌, ◌++◌, ◌∷◌, [], suc, sym, ◌∙◌, ap, subst, length, List, ℕ, arith}
use Rattle.std.specs.Prelude.{slice_index}
use Rattle.std.proofs.lemmas.List.{length_push}
use Rattle.connection_table.specs.declared.key.TableKey.{TableKey}
use Rattle.connection_table.specs.Picked.{picked}
use Rattle.connection_table.specs.Tables.{EachFlowOnce}
use Rattle.connection_table.specs.Tied.{flow_hash}
use Rattle.connection_table.specs.Touches.{Touch}
use Rattle.connection_table.proofs.Tied.{AreHashed, pushed, pushed_hashed}
use Rattle.connection_table.proofs.pairs.Pairs.push.Goals as goal

pub returns-clause-ok : goal.returns-clause-ok
returns-clause-ok c =
    let t = c.requires.tied in
    let ps : List Touch = c.args.self.now.pairs.items in
    let items : c.push_reserved.new.self.items ≡ ps ++ (c.args.flow, c.args.entry) ∷ [] = c.push_reserved.ensures.items ∙ ap (λ (l : List Touch). l ++ (c.args.flow, c.args.entry) ∷ []) (ap (λ v. v.items) c.in_ok-hash_next.ensures.same.2 ∙ c.reserve.ensures.items) in
    let order : c.add.new.self ≡ (length c.args.self.now.order + 1) ∷ c.args.self.now.order = c.in_ok-add.ensures.after ∙ ap (λ (o : List ℕ). (length o + 1) ∷ o) c.in_ok-hash_next.ensures.same.1 in (
      ap (λ (l : List Touch). picked l c.add.new.self) items ∙ ap (picked (ps ++ (c.args.flow, c.args.entry) ∷ [])) order ∙ pushed ps c.args.self.now.order c.args.flow c.args.entry c.are_places.ensures t.ordered,
      ap length items ∙ length_push ps (c.args.flow, c.args.entry),
    )

pub returns-clause-tied : goal.returns-clause-tied
returns-clause-tied c =
    let before = c.in_ok-hash_next.ensures.tied in
    let hashes : List ℕ = c.hash_next.new.self.buckets in
    let ps : List Touch = c.hash_next.new.self.pairs.items in
    let next : slice_index hashes (length ps) ≡ flow_hash c.hash_next.new.self.key c.args.flow = c.in_ok-hash_next.ensures.next.1 ∙ c.requires.hash ∙ ap (λ (k : TableKey). flow_hash k c.args.flow) (sym c.in_ok-hash_next.ensures.same.0) in
    let many : length c.push_reserved.new.self.items ≡ length ps + 1 = ap length c.push_reserved.ensures.items ∙ length_push ps (c.args.flow, c.args.entry) in
    let longer : length c.add.new.self ≡ suc (length c.hash_next.new.self.order) = ap length c.in_ok-add.ensures.after in
    let touches = (returns-clause-ok c).0 in
    record {
      ordered = omega (arith, longer, many, before.ordered);
      known = omega (arith, many, c.in_ok-hash_next.ensures.next.0);
      hashed = subst (λ (l : List Touch). AreHashed (flow_hash c.hash_next.new.self.key) hashes l) (sym c.push_reserved.ensures.items) (pushed_hashed (flow_hash c.hash_next.new.self.key) hashes ps c.args.flow c.args.entry before.hashed next);
      once = subst EachFlowOnce (sym touches) (c.requires.absent, c.requires.tied.once);
    }
