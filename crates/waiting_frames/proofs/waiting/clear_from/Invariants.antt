use Rattle.std.proofs.Common.{◌≡◌, ◌*◌}
use Rattle.waiting_frames.specs.Queues.{emptied}
use Rattle.waiting_frames.proofs.waiting.clear_from.Given as goal

abbrev pub invariant-loop-worker : goal.invariant-loop-worker
invariant-loop-worker l = l.queues.items ≡ emptied (l.node * 16) l.worker l.initial.queues.items
