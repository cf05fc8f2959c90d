use Rattle.std.proofs.Common.{◌≤◌, length, map}
use Rattle.thread_records.specs.Lean.{send_of, sends_told}
use Rattle.thread_records.specs.Merges.{lives_of, AreMerges}
use Rattle.thread_records.proofs.Gathered.{AreMergesFrom}
use Rattle.thread_records.proofs.merging.merged.Given as goal

abbrev pub invariant-loop-at : goal.invariant-loop-at
invariant-loop-at l = record {
  places : l.start ≤ l.at;
  lives : l.life ≤ length l.sent;
  rest : AreMergesFrom (λ v. map (λ n. send_of l.outcomes.items n) v.items) l.sent l.outcomes.items l.life l.start l.at → AreMerges (sends_told l.outcomes.items l.sent) (lives_of l.outcomes.items);
  whole : AreMerges (sends_told l.outcomes.items l.sent) (lives_of l.outcomes.items) → AreMergesFrom (λ v. map (λ n. send_of l.outcomes.items n) v.items) l.sent l.outcomes.items l.life l.start l.at;
}
