use Rattle.std.proofs.Common.{◌≡◌, ◌<◌, ℕ, true}
use Rattle.node_life.specs.PrivateHomes.{has}
use Rattle.node_life.proofs.homes.Homes.have_all.Given as goal

abbrev pub invariant-loop-worker : goal.invariant-loop-worker
invariant-loop-worker l = (w : ℕ) → w < l.worker → has l.self.marks w ≡ true
