use Rattle.std.specs.Prelude.{IfSome}
use Rattle.thread_roles.specs.Faults.{IsRefusal}
use Rattle.node_life.proofs.life.end_all.Given as goal

abbrev pub invariant-loop-hand : goal.invariant-loop-hand
invariant-loop-hand g l = IfSome l.told (λ fault. IsRefusal fault)
