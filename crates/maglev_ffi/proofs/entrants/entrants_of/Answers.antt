use Rattle.std.proofs.Common.{[], ℕ, get_or, map}
use Rattle.maglev_ffi.specs.Tables.{weight_at}
use Rattle.table_entrants.proofs.Ranked.{one_entered}
use Rattle.maglev_ffi.proofs.entrants.entrants_of.Goals as goal

pub loop-place-preserved : goal.loop-place-preserved
loop-place-preserved c =
    one_entered (λ (i : ℕ). get_or (map (λ w. w.now) c.args.words.now) i []) (weight_at c.args.weights.now) c.loop-place.place _ _ _ _
    c.loop-place.invariant c.in_ok-enter.ensures c.name_at.ensures c.weight_at-weight.ensures
