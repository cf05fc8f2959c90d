use Rattle.std.proofs.Common.{◌≡◌, ◌≤◌, ◌+◌, ℕ, false, length}
use Rattle.thread_roles.specs.declared.ring.Serving.{Serving}
use Rattle.thread_roles.specs.Taken.{weigh, weight_of, closing, taken}
use Rattle.thread_roles.proofs.mux.Gathered.pass.Given as goal

abbrev pub invariant-loop-at : goal.invariant-loop-at
invariant-loop-at l = record {
  failed : l.self.failed ≡ false → l.initial.self.failed ≡ false;
  kept : (h : Serving → ℕ) → l.self.failed ≡ false → weigh h l.self.sent.items + taken (weight_of h) l.initial.rings.items ≡ weigh h l.initial.self.sent.items + taken (weight_of h) l.rings.items;
  marks : l.initial.self.left + taken closing l.initial.rings.items ≤ l.self.left + taken closing l.rings.items;
  rings : length l.rings.items ≡ length l.initial.rings.items;
}
