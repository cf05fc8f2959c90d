use Rattle.std.proofs.Common.{◌≡◌, ◌+◌, ◌%◌, ◌^◌, ◌++◌, ℕ, List, length, take, sym, ap, ◌∙◌, length-append}
use Rattle.std.proofs.Math.Nat.{mod-add-mod}
use Rattle.cluster_node.specs.declared.events.Event.{Event}
use Rattle.cluster_node.specs.declared.outcomes.Outcome.{Outcome}
use Rattle.thread_records.specs.declared.nodes.NodeRecord.{NodeRecord}
use Rattle.thread_records.specs.Joins.{all_events, all_outcomes}
use Rattle.thread_records.proofs.Joins.{events_more, outcomes_more}
use Rattle.thread_records.proofs.joining.lengths.Goals as goal

summed : (sum before more : ℕ) → sum ≡ before % 2 ^ 64 → (sum + more) % 2 ^ 64 ≡ (before + more) % 2 ^ 64
summed sum before more e = ap (λ (n : ℕ). (n + more) % 2 ^ 64) e ∙ mod-add-mod before (2 ^ 64) more

pub loop-node-preserved : goal.loop-node-preserved
loop-node-preserved c =
    let nodes : List NodeRecord = c.args.nodes.now in
    let item : NodeRecord = c.node-item.result in
    let i : ℕ = c.loop-node.node-index in
    let events : length (all_events (take i nodes)) + c.len-events.result ≡ length (all_events (take (i + 1) nodes)) =
    ap (λ (n : ℕ). length (all_events (take i nodes)) + n) (c.len-events.ensures ∙ item.events.ok.0)
    ∙ sym (length-append (all_events (take i nodes)) item.events.items)
    ∙ ap (λ (r : NodeRecord). length (all_events (take i nodes) ++ r.events.items)) c.node-item.is
    ∙ ap (λ (l : List Event). length l) (sym (events_more nodes i item c.loop-node-test.true)) in
    let outcomes : length (all_outcomes (take i nodes)) + c.len-outcomes.result ≡ length (all_outcomes (take (i + 1) nodes)) =
    ap (λ (n : ℕ). length (all_outcomes (take i nodes)) + n) (c.len-outcomes.ensures ∙ item.outcomes.ok.0)
    ∙ sym (length-append (all_outcomes (take i nodes)) item.outcomes.items)
    ∙ ap (λ (r : NodeRecord). length (all_outcomes (take i nodes) ++ r.outcomes.items)) c.node-item.is
    ∙ ap (λ (l : List Outcome). length l) (sym (outcomes_more nodes i item c.loop-node-test.true)) in (
      summed c.loop-node.events _ _ c.loop-node.invariant.0 ∙ ap (λ (n : ℕ). n % 2 ^ 64) events,
      summed c.loop-node.outcomes _ _ c.loop-node.invariant.1 ∙ ap (λ (n : ℕ). n % 2 ^ 64) outcomes,
    )
