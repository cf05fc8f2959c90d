-- The outcome of an arrival, by the packet that it names.
use Rattle.std.specs.Prelude.{◌≡◌, ℕ, true, Option, Some, None}
use Rattle.cluster_core.specs.OutcomeCounts.{is_arrival}
use Rattle.cluster_node.specs.declared.packets.Packet.{Packet}
use Rattle.cluster_node.specs.declared.packets.Packet.TheVariants.{Good, Bad}
use Rattle.cluster_node.specs.declared.outcomes.Outcome.{Outcome}
use Rattle.cluster_node.specs.declared.outcomes.Outcome.TheVariants.{Dropped, Refused}
use Rattle.cluster_node.specs.declared.outcomes.Reason.TheVariants.{NoPacket}

-- One that isn't there is refused. A bad one is dropped with its own cause. A good one counts as one that came.
abbrev pub ArrivesAs : Option Packet → Outcome → Type 0
ArrivesAs None o = o ≡ Refused NoPacket
ArrivesAs (Some (Bad c)) o = (k : ℕ) × (o ≡ Dropped k c)
ArrivesAs (Some (Good x l t)) o = is_arrival o ≡ true
