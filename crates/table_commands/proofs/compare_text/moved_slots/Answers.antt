use Rattle.std.proofs.Common.{◌<◌, ℕ, [], ◌∙◌, sym}
use Rattle.std.proofs.lemmas.List.Elements.{All-push}
use Rattle.maglev_table.proofs.Walks.{kept_yes, kept_no}
use Rattle.table_commands.specs.Compare.{is_moved}
use Rattle.table_commands.proofs.compare_text.moved_slots.Goals as goal
use Rattle.table_commands.proofs.compare_text.moved_slots.Goals.{then-is_moved+in_ok-push, else-is_moved}

pub loop-slot-preserved : goal.loop-slot-preserved
loop-slot-preserved g c =
    elim c.if-is_moved.branch [
      | then-is_moved+in_ok-push w ↦ record {
        slots = rw w.slots-is (kept_yes (is_moved (g.T.NamedSlots.table c.args.old.now) (g.T.NamedSlots.table c.args.new.now)) c.loop-slot.slot _ _ [] (sym c.is_moved.ensures ∙ w.if-is_moved.true) c.loop-slot.invariant.slots w.in_ok-push.ensures.items);
        below =
            let P : ℕ → Type 0 = λ slot. slot < c.slots-size.result in
            rw (w.slots-is, w.in_ok-push.ensures.items) (All-push P c.loop-slot.slots.items c.loop-slot.slot c.loop-slot.invariant.below c.loop-slot-test.true);
      }
      | else-is_moved w ↦ record {
        slots = rw w.slots-is (kept_no (is_moved (g.T.NamedSlots.table c.args.old.now) (g.T.NamedSlots.table c.args.new.now)) c.loop-slot.slot _ [] (sym c.is_moved.ensures ∙ w.if-is_moved.false) c.loop-slot.invariant.slots);
        below = rw w.slots-is c.loop-slot.invariant.below;
      }
    ]
