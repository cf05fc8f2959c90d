use Rattle.std.proofs.Common.{◌≡◌, map}
use Rattle.table_commands.specs.Text.{name_in, weight_in}
use Rattle.table_entrants.specs.Ranking.{entrants_by}
use Rattle.table_commands.proofs.names.entrants_of.Given as goal

abbrev pub invariant-loop-place : goal.invariant-loop-place
invariant-loop-place l = l.entrants.items ≡ entrants_by (name_in (map (λ w. w.now) l.words)) (weight_in (map (λ w. w.now) l.words)) l.place
