-- What each backend, or each node, took under each version.
use Rattle.std.specs.Prelude.{ℕ, ◌+◌, ◌==◌, List, [], ◌∷◌, length, map, Option, Some, None, if◌then◌else◌}
use Rattle.std.specs.List.{list_any}
use Rattle.five_tuple.specs.declared.Flow.{Flow}
use Rattle.connection_table.specs.Touches.{same_flow}
use Rattle.cluster_node.specs.declared.events.LogEntry.{LogEntry}
use Rattle.traffic_shares.specs.declared.holders.ShareKey.{ShareKey}
use Rattle.traffic_shares.specs.declared.holders.ShareKind.{ShareKind}
use Rattle.traffic_shares.specs.declared.sends.Sent.{Sent}
use Rattle.traffic_shares.specs.declared.shares.ShareRow.{ShareRow}
use Rattle.traffic_shares.specs.Holders.{key_of, same_share, placed}
use Rattle.traffic_shares.specs.Sends.{length_of, sent_by}

-- packets, their bytes, and their flows, each once
pub record Portion : Type 0 where
  pub packets : ℕ
  pub bytes : ℕ
  pub flows : List Flow

abbrev pub nothing : Portion
nothing = record { packets = 0; bytes = 0; flows = [] }

abbrev pub with_flow : Flow → List Flow → List Flow
with_flow x xs = if list_any (same_flow x) xs then xs else x ∷ xs

-- the portion with one packet more
abbrev pub one_more : Flow → ℕ → Portion → Portion
one_more x len p = record { packets = p.packets + 1; bytes = p.bytes + len; flows = with_flow x p.flows }

-- these portions with one packet more in one of them
abbrev pub put_into : (ShareKey → Portion) → ShareKey → Flow → ℕ → ShareKey → Portion
put_into portion key x len k = if same_share key k then one_more x len (portion k) else portion k

abbrev pub portion_with : ShareKind → (ℕ → ℕ) → Option Sent → (ShareKey → Portion) → ShareKey → Portion
portion_with kind len None portion k = portion k
portion_with kind len (Some s) portion k = put_into portion (key_of kind s) s.flow (len s.packet) k

-- what a holder took under a version
abbrev pub portion_of : ShareKind → List LogEntry → ShareKey → Portion
portion_of kind [] k = nothing
portion_of kind (s ∷ past) k = portion_with kind (λ n. length_of (s ∷ past) n) (sent_by s.event s.outcome) (λ x. portion_of kind past x) k

-- one is put among others, in order, where it had nothing before
abbrev pub keys_with : Portion → ShareKey → List ShareKey → List ShareKey
keys_with before key keys = if before.packets == 0 then placed key keys else keys

abbrev pub keys_after : ShareKind → (ShareKey → Portion) → Option Sent → List ShareKey → List ShareKey
keys_after kind portion None keys = keys
keys_after kind portion (Some s) keys = keys_with (portion (key_of kind s)) (key_of kind s) keys

-- who took something under which version, in order
abbrev pub keys_of : ShareKind → List LogEntry → List ShareKey
keys_of kind [] = []
keys_of kind (s ∷ past) = keys_after kind (λ x. portion_of kind past x) (sent_by s.event s.outcome) (keys_of kind past)

-- how many packets, bytes and flows
abbrev pub taken : Portion → ℕ × ℕ × ℕ
taken p = (p.packets, p.bytes, length p.flows)

abbrev pub row_with : (ShareKey → Portion) → ShareKey → ShareRow
row_with portion k = record {
  version = k.version;
  holder = k.holder;
  packets = (portion k).packets;
  bytes = (portion k).bytes;
  flows = length (portion k).flows;
}

-- the rows of a record
abbrev pub rows_of : ShareKind → List LogEntry → List ShareRow
rows_of kind past = map (λ k. row_with (λ x. portion_of kind past x) k) (keys_of kind past)
