use Rattle.std.proofs.Common.{◌≡◌, [], replicate}
use Rattle.waiting_frames.proofs.waiting.Waiting.new.Given as goal

abbrev pub invariant-loop : goal.invariant-loop
invariant-loop l = l.queues.items ≡ replicate l.counter []
