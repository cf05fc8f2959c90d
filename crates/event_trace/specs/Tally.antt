-- What a report says of a scenario's records, of which there are so many.
use Rattle.std.specs.Prelude.{ℕ, ◌-◌}
use Rattle.event_trace.specs.Trace.{Trace}
use Rattle.event_trace.specs.declared.play.Tally.{Tally}

abbrev pub tally_of : ℕ → Trace → Tally
tally_of packets c = record { packets = packets; lost = c.lost; unrouted = c.unrouted; skipped = c.skipped; left = packets - c.read }
