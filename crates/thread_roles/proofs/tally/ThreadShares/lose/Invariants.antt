use Rattle.std.proofs.Common.{◌≡◌, false}
use Rattle.thread_roles.specs.Counts.{with_lost}
use Rattle.thread_roles.proofs.tally.ThreadShares.lose.Given as goal

abbrev pub invariant-loop : goal.invariant-loop
invariant-loop g l = record {
  parts : l.self.shares.parts ≡ l.initial.self.shares.parts;
  lost : l.self.lost ≡ false → (l.initial.self.lost ≡ false) × (l.self.shares ≡ with_lost l.counter l.initial.self.shares);
}
