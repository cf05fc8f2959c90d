use Rattle.std.proofs.Common.{◌≡◌, length, map}
use Rattle.thread_roles.specs.Pushed.{sent_into, with_item}
use Rattle.thread_roles.specs.declared.ring.Message.TheVariants.{Close}
use Rattle.thread_roles.proofs.Taking.{first_mapped}
use Rattle.thread_roles.proofs.ring.Inputs.close.Given as goal

abbrev pub invariant-loop-at : goal.invariant-loop-at
invariant-loop-at g l = (length l.self.rings.items ≡ length l.initial.self.rings.items) × (map (λ r. sent_into r) l.self.rings.items ≡ first_mapped (λ ms. with_item Close ms) l.at (map (λ r. sent_into r) l.initial.self.rings.items))
