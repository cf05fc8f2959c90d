use Rattle.std.proofs.Common.{arith}
use Rattle.maglev_ffi.proofs.Counting.{one_more, no_more}
use Rattle.maglev_ffi.proofs.maglev_differing.Goals as goal
use Rattle.maglev_ffi.proofs.maglev_differing.Goals.{then-old-slot, else-old-slot}

pub loop-slot-preserved : goal.loop-slot-preserved
loop-slot-preserved c =
    elim c.if-old-slot.branch [
      | then-old-slot w ↦
          let e = one_more c.args.old.now c.args.new.now c.loop-slot.slot w.if-old-slot.true in
          record { counted = omega (arith, e); few = omega arith }
      | else-old-slot w ↦
          let e = no_more c.args.old.now c.args.new.now c.loop-slot.slot w.if-old-slot.false in
          record { counted = omega (arith, e); few = omega arith }
    ]
