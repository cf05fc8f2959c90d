-- Shares in hand, and the counts of their book.
use Rattle.std.proofs.Common.{◌≡◌, ◌++◌, [], ℕ, List, sym, ap, ◌∙◌, arith}
use Rattle.std.specs.Prelude.{replicate}
use Rattle.stats_book.specs.Counts.{Counted}
use Rattle.stats_book.specs.declared.stats.Stats.{Stats}
use Rattle.cluster_node.specs.declared.outcomes.Outcome.{Outcome}
use Rattle.cluster_core.specs.OutcomeCounts.{is_arrival, is_forward, how_many, drop_counts}
use Rattle.cluster_core.specs.Totals.{came_all, went_all}
use Rattle.stats_book.specs.Counts.{sums}
use Rattle.stats_book.specs.Moves.{IsSum}
use Rattle.thread_roles.specs.Counts.{AreTotals, counted}
use Rattle.thread_roles.proofs.Counting.{many_append, drops_append}
use Rattle.node_threads.proofs.Settled.{none_wait}

-- with all shares in hand, the counts are the totals of the outcomes
pub totals_are : (os : List Outcome) (parts : ℕ) (all : Counted) (book stats : Stats) → went_all os ≡ came_all os → all ≡ counted all.parts os → all ≡ record { parts = parts; received = book.received; forwarded = book.forwarded; dropped = book.dropped } → stats ≡ book → AreTotals stats os
totals_are os parts all book stats settled counts whole is =
    let same : record { parts = parts; received = book.received; forwarded = book.forwarded; dropped = book.dropped } ≡ counted all.parts os = sym whole ∙ counts in
    let received : stats.received ≡ how_many (λ o. is_arrival o) os = ap (λ (s : Stats). s.received) is ∙ ap (λ (c : Counted). c.received) same in
    let forwarded : stats.forwarded ≡ how_many (λ o. is_forward o) os = ap (λ (s : Stats). s.forwarded) is ∙ ap (λ (c : Counted). c.forwarded) same in
    let dropped : stats.dropped ≡ drop_counts os = ap (λ (s : Stats). s.dropped) is ∙ ap (λ (c : Counted). c.dropped) same in
    record {
      received = received;
      forwarded = forwarded;
      dropped = dropped;
      waiting = none_wait os stats.received stats.forwarded stats.waiting stats.dropped settled received forwarded dropped stats.adds_up;
    }

-- the sums of totals are the totals of both lists
pub totals_more : (os ps : List Outcome) (some others both : Stats) → IsSum some others both → AreTotals some os → AreTotals others ps → AreTotals both (os ++ ps)
totals_more os ps some others both put had own = record {
  received = omega (arith, put.received, had.received, own.received, many_append (λ o. is_arrival o) os ps);
  forwarded = omega (arith, put.forwarded, had.forwarded, own.forwarded, many_append (λ o. is_forward o) os ps);
  dropped = put.dropped ∙ ap (λ (l : List ℕ). sums l others.dropped) had.dropped ∙ ap (λ (l : List ℕ). sums (drop_counts os) l) own.dropped ∙ sym (drops_append os ps);
  waiting = omega (arith, put.waiting, had.waiting, own.waiting);
}

-- no outcomes
pub totals_none : (stats : Stats) → stats.received ≡ 0 → stats.forwarded ≡ 0 → stats.dropped ≡ replicate 13 0 → stats.waiting ≡ 0 → AreTotals stats []
totals_none stats received forwarded dropped waiting = record { received = received; forwarded = forwarded; dropped = dropped; waiting = waiting }
