use Rattle.std.specs.Prelude.{slice_index}
use Rattle.node_threads.proofs.node.run_order.Given as goal

abbrev pub ghosts-run_alone : goal.ghosts-run_alone
ghosts-run_alone g a = record { names = λ n. slice_index a.blanks.names n; parts = a.blanks.parts }
