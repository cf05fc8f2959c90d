use Rattle.std.proofs.Common.{◌≡◌, [], get_or, map}
use Rattle.maglev_ffi.specs.Tables.{weight_at}
use Rattle.table_entrants.specs.Ranking.{entrants_by}
use Rattle.maglev_ffi.proofs.entrants.entrants_of.Given as goal

abbrev pub invariant-loop-place : goal.invariant-loop-place
invariant-loop-place l = l.entrants.items ≡ entrants_by (λ i. get_or (map (λ w. w.now) l.words) i []) (weight_at l.weights) l.place
