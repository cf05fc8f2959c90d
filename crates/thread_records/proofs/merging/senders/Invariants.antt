use Rattle.std.proofs.Common.{◌≡◌, ◌≤◌, true, take}
use Rattle.thread_records.specs.Merges.{all_from}
use Rattle.thread_records.proofs.merging.senders.Given as goal

abbrev pub invariant-loop-at : goal.invariant-loop-at
invariant-loop-at l = record {
  from : all_from l.limit (take l.at l.outcomes.items) ≡ true;
  limit : l.limit ≤ 65536;
}
