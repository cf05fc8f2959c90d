use Rattle.std.proofs.Common.{◌-◌}
use Rattle.pcap_file.specs.Format.{max_records}
use Rattle.connection_starts.proofs.Walks.{HasNoted}
use Rattle.connection_starts.proofs.reading.note_records.Given as goal

abbrev pub invariant-loop-counted : goal.invariant-loop-counted
invariant-loop-counted g l = HasNoted l.fn.rules l.head (g.I.Source.tape l.initial.input) (g.I.Source.tape l.input) l.given l.counted

abbrev pub decreases-loop-counted : goal.decreases-loop-counted
decreases-loop-counted g l = max_records - l.given
