use Rattle.std.proofs.Common.{◌≡◌, ◌≤◌, ◌+◌, ℕ, false, length}
use Rattle.thread_roles.specs.declared.ring.Serving.{Serving}
use Rattle.thread_roles.specs.Taken.{weigh, weight_of, closing, taken}
use Rattle.thread_roles.proofs.mux.gather.Given as goal

abbrev pub invariant-loop : goal.invariant-loop
invariant-loop g l = record {
  kept : (h : Serving → ℕ) → l.gathered.failed ≡ false → weigh h l.gathered.sent.items + taken (weight_of h) l.initial.rings.items ≡ taken (weight_of h) l.rings.items;
  marks : length l.initial.rings.items + taken closing l.initial.rings.items ≤ l.gathered.left + taken closing l.rings.items;
}
