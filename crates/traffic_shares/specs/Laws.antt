-- What is true of the shares of every record.
use Rattle.std.specs.Prelude.{◌≡◌, ℕ, ◌+◌, List, [], ◌∷◌, is_some, if◌then◌else◌}
use Rattle.std.specs.List.{sum_by}
use Rattle.cluster_node.specs.declared.events.LogEntry.{LogEntry}
use Rattle.traffic_shares.specs.declared.holders.ShareKind.{ShareKind}
use Rattle.traffic_shares.specs.Sends.{sent_by}
use Rattle.traffic_shares.specs.Shares.{rows_of}

-- how many packets were sent
abbrev pub sent_count : List LogEntry → ℕ
sent_count [] = 0
sent_count (s ∷ past) = sent_count past + (if is_some (sent_by s.event s.outcome) then 1 else 0)

abbrev pub PacketsAddUp : Type 0
PacketsAddUp = (kind : ShareKind) (past : List LogEntry) → sum_by (λ r. r.packets) (rows_of kind past) ≡ sent_count past
