use Rattle.std.proofs.Common.{◌≡◌, ◌≤◌, ◌+◌, length}
use Rattle.node_life.proofs.rings.lay.Given as goal

abbrev pub invariant-loop-post : goal.invariant-loop-post
invariant-loop-post g l = record {
  parts : l.tally.shares.parts + length l.laid.outfits.items ≡ l.initial.tally.shares.parts;
  count : length l.laid.outfits.items + length l.post-iterator.rest.items ≤ length l.fn.posts.items;
  same : (l.tally.shares ≡ record l.initial.tally.shares { parts = l.tally.shares.parts }) × (l.tally.lost ≡ l.initial.tally.lost);
}
