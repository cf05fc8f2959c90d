-- Changes without the numbers on which no cause depends where no idle limit is set.
use Rattle.std.specs.Prelude.{map}
use Rattle.run_report.specs.declared.sending.Split.{Split}
use Rattle.connection_changes.specs.declared.causes.Change.{Change}
use Rattle.connection_changes.specs.declared.sites.Site.{Site}
use Rattle.connection_changes.specs.Turns.{Reckoning}

-- the number of an event, and the version under which the first packet was served
abbrev pub bare_split : Split → Split
bare_split p = record { first = record p.first { number = 0; version = 0 }; later = record p.later { number = 0 } }

-- the number of a record, its time and the clock
abbrev pub bare_site : Site → Site
bare_site a = record a { packet = 0; time = 0; clock = 0 }

abbrev pub bare_change : Change → Change
bare_change c = record { split = bare_split c.split; first = bare_site c.first; later = bare_site c.later }

abbrev pub bare_reckoning : Reckoning → Reckoning
bare_reckoning r = record r { splits = map bare_split r.splits; changes = map bare_change r.changes }
