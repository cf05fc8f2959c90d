use Rattle.std.proofs.Common.{◌++◌, List, ℕ, ap, ◌∙◌, sym, append_assoc, string_bytes}
use Rattle.std.specs.List.{flat_map, range_with_len}
use Rattle.scenario_tables.specs.Tables.{owner_line_as}
use Rattle.scenario_tables.proofs.Lines.{one_place_more}
use Rattle.scenario_tables.proofs.listing.push_owner_lines.Goals as goal

pub loop-slot-preserved : goal.loop-slot-preserved
loop-slot-preserved c =
    let f = owner_line_as c.args.form c.args.table.now in
    let slot = c.loop-slot.slot in
    c.in_ok-push_owner_line.ensures
    ∙ ap (λ (l : List ℕ). l ++ f slot) c.loop-slot.invariant
    ∙ append_assoc (string_bytes c.args.text.now) (flat_map f (range_with_len 0 slot)) (f slot)
    ∙ ap (λ (l : List ℕ). string_bytes c.args.text.now ++ l) (sym (one_place_more f slot))
