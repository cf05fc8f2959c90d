use Rattle.std.proofs.Common.{length, ℕ, ap, sym, ◌∙◌, refl}
use Rattle.std.proofs.lemmas.List.FromFn.{length-map-range_with_len}
use Rattle.maglev_table.specs.Turns.{slots_of, all_slots_of}
use Rattle.std.proofs.lemmas.List.{length-map}
use Rattle.table_entrants.specs.Ranking.{names_of}
use Rattle.table_entrants.specs.declared.entrant.Entrant.{Entrant}
use Rattle.table_commands.proofs.Lines.{whole_text}
use Rattle.table_commands.proofs.table_text.table_text_of.Goals as goal

pub push_count_lines-requires : goal.push_count_lines-requires
push_count_lines-requires c =
    ap length (c.as_slice.ensures.value ∙ c.in_ok-counts.ensures) ∙ length-map-range_with_len (λ who. slots_of who c.args.table.now.owners) 0 c.args.table.now.lists ∙ c.requires.named

pub returns : goal.returns
returns c =
    whole_text c.args.form (names_of c.args.entrants.now) c.args.table.now.owners c.as_slice.result.now _ _ _ c.args.size c.slots-slots.result (length c.args.entrants.now)
    (c.in_ok-text.ensures ∙ rw c.slots-slots.ensures.value refl) c.in_ok-push_slot_lines.ensures c.in_ok-push_count_lines.ensures (sym (length-map c.args.entrants.now (λ (e : Entrant). e.name))) (c.slots-slots.ensures.value ∙ sym c.requires.sized)
    (c.as_slice.ensures.value ∙ c.in_ok-counts.ensures ∙ ap (λ (k : ℕ). all_slots_of k c.args.table.now.owners) c.requires.named)
