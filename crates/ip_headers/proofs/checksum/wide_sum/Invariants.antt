use Rattle.std.proofs.Common.{◌≡◌, ◌≤◌, ◌+◌, length}
use Rattle.ip_headers.specs.Sum.{word_sum, folded}
use Rattle.ip_headers.proofs.checksum.wide_sum.Given as goal

abbrev pub invariant-loop-left : goal.invariant-loop-left
invariant-loop-left l = record {
  small : l.sum ≤ 0x7fff_8000_0000_0000;
  same : folded (l.sum + word_sum l.left) ≡ folded (word_sum l.bytes);
}

abbrev pub decreases-loop-left : goal.decreases-loop-left
decreases-loop-left l = length l.left
