use Rattle.std.proofs.Common.{◌≡◌, ◌<◌, ℕ, suc, map, get_or, []}
use Rattle.std.specs.Cmp.Lexicographic.{slice_cmp}
use Rattle.std.specs.Ordering.{nat_cmp}
use Rattle.std.specs.declared.cmp.Ordering.TheVariants.{Less}
use Rattle.table_entrants.proofs.order.ascends.Given as goal

abbrev pub invariant-loop-place : goal.invariant-loop-place
invariant-loop-place l = (i : ℕ) → suc i < l.place → slice_cmp nat_cmp (get_or (map (λ e. e.name) l.entrants) i []) (get_or (map (λ e. e.name) l.entrants) (suc i) []) ≡ Less
