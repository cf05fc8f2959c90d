use Rattle.std.proofs.Common.{◌≡◌, ℕ, get_or, vec_len}
use Rattle.connection_starts.proofs.ordinals.Ordinals.reach.Given as goal

abbrev pub invariant-loop : goal.invariant-loop
invariant-loop l = record {
  long : l.counter ≡ vec_len l.self.all;
  same : (k : ℕ) → get_or l.self.all.items k 0 ≡ get_or l.initial.self.all.items k 0;
}
