-- What a driver's thread hands back.
use Rattle.std.specs.Prelude.{◌≡◌, true}
use Rattle.stats_book.specs.declared.stats.Stats.{Stats}
use Rattle.cluster_node.specs.Rules.{Rules}
use Rattle.thread_records.specs.declared.nodes.NodeRecord.{NodeRecord}
use Rattle.thread_records.specs.Paced.{AreUnmarked}
use Rattle.thread_records.specs.Runs.{IsRunOf}
use Rattle.thread_roles.specs.Counts.{AreRead, AreTotals}
use Rattle.thread_roles.specs.Going.{Asked}

-- what a driver's thread hands back is its node's run, and the totals of its outcomes; no ring refused a packet where the driver
-- waits
pub record IsCounted {S H : Type 0} (rules : Rules) (asked : Asked S H) (r : NodeRecord) (stats : Stats) : Type 0 where
  pub run : IsRunOf rules asked.packets asked.node asked.ring asked.commands r
  pub counts : AreRead asked.packets → AreTotals stats r.outcomes.items
  pub unmarked : asked.paced ≡ true → AreUnmarked r.events.items
