use Rattle.std.proofs.Common.{◌≡◌, ◌∙◌, rules}
use Rattle.std.specs.Arc.{arc_value}
use Rattle.selection.specs.Kept.{owners_of}
use Rattle.selection.specs.Picks.{preferences, owners_in}
use Rattle.selection.proofs.Tables.{all_of_size, even_table, is_table_of}
use Rattle.selection.proofs.maglev.Maglev.table.Goals as goal

pub filled-requires-clause-sized : goal.filled-requires-clause-sized
filled-requires-clause-sized g c = rw (c.as_slice.ensures.value, c.in_ok-lists.ensures) (all_of_size (g.H.FlowHash.plain c.args.self.now.hash) c.args.size c.args.ups.now)

pub invariant_of-result : goal.invariant_of-result
invariant_of-result g c =
    let made : c.as_slice.result.now ≡ preferences (g.H.FlowHash.plain c.args.self.now.hash) c.args.size c.args.ups.now = c.as_slice.ensures.value ∙ c.in_ok-lists.ensures in
    let none = rw made at c.in_ok-table.ensures.none in
    let some = rw made at c.in_ok-table.ensures.some in
    let kept : owners_of (arc_value c.in-Ok.slots) ≡ owners_in c.in_ok-table.table = search rules in
    rw (c.in_ok-ups.ensures.items, kept) (λ any. (even_table (g.H.FlowHash.plain c.args.self.now.hash) c.args.size c.args.ups.now c.args.weights.now c.in_ok-table.table none some any).full)

pub returns-clause-table : goal.returns-clause-table
returns-clause-table g c =
    let made : c.as_slice.result.now ≡ preferences (g.H.FlowHash.plain c.args.self.now.hash) c.args.size c.args.ups.now = c.as_slice.ensures.value ∙ c.in_ok-lists.ensures in
    let none = rw made at c.in_ok-table.ensures.none in
    let some = rw made at c.in_ok-table.ensures.some in
    let kept : owners_of (arc_value c.in-Ok.slots) ≡ owners_in c.in_ok-table.table = search rules in
    rw (c.in_ok-ups.ensures.items, kept) (is_table_of (g.H.FlowHash.plain c.args.self.now.hash) c.args.size c.args.ups.now c.args.weights.now c.in_ok-table.table none some)
