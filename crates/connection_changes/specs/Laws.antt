-- What is true of the changes of every record.
use Rattle.std.specs.Prelude.{◌≡◌, ℕ, ◌+◌, true, List, length, Option, None}
use Rattle.std.specs.List.{All}
use Rattle.cluster_node.specs.declared.events.LogEntry.{LogEntry}
use Rattle.cluster_node.specs.declared.outcomes.Outcome.{Outcome}
use Rattle.cluster_node.specs.declared.outcomes.Outcome.TheVariants.{Installed, Placed, Forward, Dropped, Restarted, Refused}
use Rattle.run_report.specs.Causes.{Lookups, is_still_kept}
use Rattle.run_report.specs.Splits.{splits_of}
use Rattle.connection_changes.specs.declared.causes.ChangeCause.TheVariants.{Down, Drained, Node, Restart, Worker, Idle, Evicted}
use Rattle.connection_changes.specs.Changes.{changes_of, cause_in, changes_by}

-- the counts of the causes
abbrev pub cause_total : Lookups → Option ℕ → List LogEntry → ℕ
cause_total lookups idle past =
    let count = changes_by lookups idle (changes_of past) in
    count Down + count Drained + count Node + count Restart + count Worker + count Idle + count Evicted

abbrev pub CausesAddUp : Type 0
CausesAddUp = (lookups : Lookups) (idle : Option ℕ) (past : List LogEntry) → (cause_total lookups idle past ≡ length (changes_of past))
    × (length (changes_of past) ≡ length (splits_of past))

-- an outcome is no restart, and what it sent was sent by this node's worker
abbrev pub IsOutcomeBy : ℕ → ℕ → Outcome → Type 0
IsOutcomeBy n w Installed = Unit {0}
IsOutcomeBy n w (Placed u f) = Unit {0}
IsOutcomeBy n w (Forward m u k x b v) = (m ≡ n) × (u ≡ w)
IsOutcomeBy n w (Dropped k c) = Unit {0}
IsOutcomeBy n w (Restarted l) = ⊥
IsOutcomeBy n w (Refused r) = Unit {0}

abbrev pub IsBy : ℕ → ℕ → LogEntry → Type 0
IsBy n w s = IsOutcomeBy n w s.outcome

-- the first servers of all splits are up or drain, and one worker without restarts sent all: each connection was evicted
abbrev pub MovesAreEvictions : Type 0
MovesAreEvictions = (lookups : Lookups) (n w : ℕ) (past : List LogEntry) → All (IsBy n w) past → All (λ p. is_still_kept lookups p ≡ true) (splits_of past) →
    All (λ c. cause_in lookups None c ≡ Evicted) (changes_of past)
