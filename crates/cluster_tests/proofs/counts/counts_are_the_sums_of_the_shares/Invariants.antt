use Rattle.std.specs.Prelude.{slice_index}
use Rattle.cluster_tests.proofs.counts.counts_are_the_sums_of_the_shares.Given as goal

abbrev pub ghosts-counted_by_two : goal.ghosts-counted_by_two
ghosts-counted_by_two g a = record { names = λ n. slice_index a.blanks.names n; parts = a.blanks.parts }
