-- A book of what a summary tells is that of a record.
use Rattle.std.specs.Prelude.{◌≡◌, ℕ, List, ◌++◌, map, reverse, unwrap_or}
use Rattle.std.specs.BTreeMap.{get}
use Rattle.std.specs.Ordering.{nat_cmp}
use Rattle.cluster_node.specs.declared.events.LogEntry.{LogEntry}
use Rattle.cluster_node.specs.declared.outcomes.Outcome.{Outcome}
use Rattle.cluster_node.specs.declared.outcomes.Outcome.TheVariants.{Installed, Placed, Forward, Dropped, Restarted, Refused}
use Rattle.connection_changes.specs.Books.{AreChanged, placed_of}
use Rattle.connection_changes.specs.Changes.{changed_of}
use Rattle.connection_changes.specs.Sites.{life_of}
use Rattle.summary_book.specs.declared.book.SummaryBook.{SummaryBook}
use Rattle.summary_book.specs.declared.sent.Sent.{Sent}
use Rattle.summary_book.specs.Looks.{AreSeen}
use Rattle.summary_book.specs.Sents.{sent_of}

-- what is kept of the sends of a record, the newest in front
abbrev pub sents_of : List LogEntry → List Sent
sents_of past = map sent_of (placed_of past)

-- how many lives a node had before this one
abbrev pub life_in : SummaryBook → ℕ → ℕ
life_in b n = unwrap_or (get nat_cmp b.lives n) 0

-- how many lives the node that sent a packet had before this one
abbrev pub life_at : SummaryBook → Outcome → ℕ
life_at b Installed = 0
life_at b (Placed w f) = 0
life_at b (Forward n w k x y v) = life_in b n
life_at b (Dropped k c) = 0
life_at b (Restarted l) = 0
life_at b (Refused r) = 0

-- the book has these sends, of which the newest wait
pub record HasSents (all : List Sent) (b : SummaryBook) : Type 0 where
  pub done : List Sent
  pub seen : AreSeen done b.seen
  pub whole : reverse b.waiting.items ++ done ≡ all

-- the events of a record were noted
pub record IsNotedSummaryOf (past : List LogEntry) (b : SummaryBook) : Type 0 where
  pub sents : HasSents (sents_of past) b
  pub lives : (n : ℕ) → life_in b n ≡ life_of past n

pub record IsSummaryOf (past : List LogEntry) (b : SummaryBook) : Type 0 where
  pub seen : AreSeen (sents_of past) b.seen
  pub changed : AreChanged (changed_of past) b.changed
