-- What is kept of a cluster's events is that of their record.
use Rattle.std.specs.Prelude.{◌≡◌, ℕ, ◌==◌, Bool, true, false, List, length, Option, Some, None, slice_index}
use Rattle.std.specs.List.{list_any}
use Rattle.std.specs.HashMap.{get}
use Rattle.std.specs.HashSet.{contains, hash_set_len}
use Rattle.five_tuple.specs.declared.Flow.{Flow}
use Rattle.connection_table.specs.Touches.{same_flow}
use Rattle.cluster_node.specs.declared.events.LogEntry.{LogEntry}
use Rattle.traffic_shares.specs.declared.book.ShareBook.{ShareBook}
use Rattle.traffic_shares.specs.declared.books.AskedShares.{AskedShares}
use Rattle.traffic_shares.specs.declared.books.ShareBooks.{ShareBooks}
use Rattle.traffic_shares.specs.declared.flows.FlowSet.{FlowSet}
use Rattle.traffic_shares.specs.declared.holders.ShareKey.{ShareKey}
use Rattle.traffic_shares.specs.declared.holders.ShareKind.{ShareKind}
use Rattle.traffic_shares.specs.declared.holders.ShareKind.TheVariants.{Backends, Nodes}
use Rattle.traffic_shares.specs.declared.lengths.Lengths.{Lengths}
use Rattle.traffic_shares.specs.declared.shares.Share.{Share}
use Rattle.traffic_shares.specs.declared.shares.Shares.{Shares}
use Rattle.traffic_shares.specs.Holders.{same_share}
use Rattle.traffic_shares.specs.Sends.{length_of}
use Rattle.traffic_shares.specs.Shares.{Portion, nothing, put_into, portion_of, keys_of}

-- the flows are these, each once
pub record AreFlows (xs : List Flow) (s : FlowSet) : Type 0 where
  pub each : (x : Flow) → contains same_flow s.all x ≡ list_any (same_flow x) xs
  pub count : hash_set_len s.all ≡ length xs

pub record IsPortion (p : Portion) (s : Share) : Type 0 where
  pub packets : s.packets ≡ p.packets
  pub bytes : s.bytes ≡ p.bytes
  pub flows : AreFlows p.flows s.flows

-- a holder without a share took nothing, and one with a share took a packet
abbrev pub IsHeld : Portion → Option Share → Type 0
IsHeld p None = p ≡ nothing
IsHeld p (Some s) = IsPortion p s × ((p.packets == 0) ≡ false)

pub record AreShares (keys : List ShareKey) (portion : ShareKey → Portion) (s : Shares) : Type 0 where
  pub holders : s.holders.items ≡ keys
  pub each : (k : ShareKey) → IsHeld (portion k) (get same_share s.shares k)

-- Where the share was there it has the packet. Else nothing has changed, and it took nothing.
abbrev pub Renewed : Bool → List ShareKey → (ShareKey → Portion) → ShareKey → Flow → ℕ → Shares → Type 0
Renewed true keys portion key x len s = AreShares keys (put_into portion key x len) s × (((portion key).packets == 0) ≡ false)
Renewed false keys portion key x len s = AreShares keys portion s × (portion key ≡ nothing)

pub record AreLengthsOf (past : List LogEntry) (l : Lengths) : Type 0 where
  pub each : (k : ℕ) → slice_index l.all.items k ≡ length_of past k

pub record IsShareBookOf (kind : ShareKind) (past : List LogEntry) (b : ShareBook) : Type 0 where
  pub of_kind : b.kind ≡ kind
  pub lengths : AreLengthsOf past b.lengths
  pub shares : AreShares (keys_of kind past) (λ k. portion_of kind past k) b.shares

-- the book of a record, where it is asked for
abbrev pub BookIf : Bool → ShareKind → List LogEntry → ShareBook → Type 0
BookIf true kind past b = IsShareBookOf kind past b
BookIf false kind past b = Unit {0}

pub record AreShareBooksOf (asked : AskedShares) (past : List LogEntry) (b : ShareBooks) : Type 0 where
  pub these : b.asked ≡ asked
  pub backends : BookIf asked.backends Backends past b.backends
  pub nodes : BookIf asked.nodes Nodes past b.nodes
