-- What is kept of a cluster's events is that of their record.
use Rattle.std.specs.Prelude.{◌≡◌, ℕ, List, [], ◌∷◌, length, Option, Some, None, slice_get, slice_index}
use Rattle.std.specs.List.{list_any}
use Rattle.std.specs.HashSet.{contains, hash_set_len}
use Rattle.five_tuple.specs.declared.Flow.{Flow}
use Rattle.connection_table.specs.Touches.{same_flow}
use Rattle.cluster_node.specs.declared.events.LogEntry.{LogEntry}
use Rattle.run_report.specs.declared.noted.Beside.{Beside}
use Rattle.run_report.specs.declared.noted.Noted.{Noted}
use Rattle.run_report.specs.declared.sending.Split.{Split}
use Rattle.run_report.specs.Books.{IsSettledAs, IsBookOf}
use Rattle.run_report.specs.Noting.{noted_by}
use Rattle.connection_changes.specs.declared.book.ChangeBook.{ChangeBook}
use Rattle.connection_changes.specs.declared.causes.Change.{Change}
use Rattle.connection_changes.specs.declared.changed.ChangedFlows.{ChangedFlows}
use Rattle.connection_changes.specs.declared.clocks.Clocks.{Clocks}
use Rattle.connection_changes.specs.declared.numbers.Numbers.{Numbers}
use Rattle.connection_changes.specs.declared.sites.Served.{Served}
use Rattle.connection_changes.specs.declared.sites.Site.{Site}
use Rattle.connection_changes.specs.declared.worker_numbers.WorkerNumbers.{WorkerNumbers}
use Rattle.connection_changes.specs.Sites.{time_of, life_of, clock_of, nowhere, site_in}
use Rattle.connection_changes.specs.Changes.{changed_of, changes_of}

-- the number of a worker, where its node has any
abbrev pub number_in : Option Numbers → ℕ → ℕ
number_in None w = 0
number_in (Some workers) w = slice_index workers.all.items w

abbrev pub worker_number : WorkerNumbers → ℕ → ℕ → ℕ
worker_number c n w = number_in (slice_get c.nodes.items n) w

abbrev pub life_in : Clocks → ℕ → ℕ
life_in c n = slice_index c.lives.all.items n

abbrev pub clock_in : Clocks → ℕ → ℕ → ℕ
clock_in c n w = worker_number c.clocks n w

-- where a packet was served
abbrev pub site_served : Option Served → Clocks → Site
site_served None c = nowhere
site_served (Some s) c =
    record {
      packet = s.packet;
      time = slice_index c.times.all.items s.packet;
      node = s.node;
      worker = s.worker;
      life = life_in c s.node;
      clock = clock_in c s.node s.worker;
    }

pub record AreClocksOf (past : List LogEntry) (c : Clocks) : Type 0 where
  pub times : (k : ℕ) → slice_index c.times.all.items k ≡ time_of past k
  pub lives : (n : ℕ) → life_in c n ≡ life_of past n
  pub clocks : (n w : ℕ) → clock_in c n w ≡ clock_of past n w

-- the flows are these, each once
pub record AreChanged (xs : List Flow) (c : ChangedFlows) : Type 0 where
  pub each : (x : Flow) → contains same_flow c.flows x ≡ list_any (same_flow x) xs
  pub count : hash_set_len c.flows ≡ length xs

-- splits with where the packets of each were sent
abbrev pub placed_changes : List Split → List (Beside Site) → List Change
placed_changes [] sites = []
placed_changes (p ∷ ps) [] = []
placed_changes (p ∷ ps) (b ∷ bs) = record { split = p; first = b.first; later = b.later } ∷ placed_changes ps bs

-- what a record sent, and where, the newest in front
abbrev pub placed_of : List LogEntry → List (Noted Site)
placed_of [] = []
placed_of (s ∷ past) = noted_by (length past) s.event s.outcome (site_in (s ∷ past) s.outcome) (placed_of past)

-- the events of a record were noted
pub record IsNotedChangeBookOf (past : List LogEntry) (b : ChangeBook) : Type 0 where
  pub splits : IsBookOf past b.splits
  pub placed : IsSettledAs (placed_of past) b.splits
  pub clocks : AreClocksOf past b.clocks

pub record IsChangeBookOf (past : List LogEntry) (b : ChangeBook) : Type 0 where
  pub splits : IsBookOf past b.splits
  pub changed : AreChanged (changed_of past) b.changed
  pub changes : b.changes.items ≡ changes_of past
