use Rattle.pcap_file.specs.declared.format.InputEnd.TheVariants as ends
use Rattle.pcap_file.specs.Format.{packet}
use Rattle.connection_starts.specs.Captures.{told_by}
use Rattle.connection_starts.proofs.Walks.{noted_none, next_number, noted_more, noted_all, noted_refused, noted_too_many}
use Rattle.connection_starts.proofs.reading.note_records.Goals as goal

pub loop-counted-init : goal.loop-counted-init
loop-counted-init g c = noted_none c.args.rules c.args.head (g.I.Source.tape c.args.input.now) c.args.counted c.requires.check c.requires.idle c.requires.fresh

pub loop-counted-preserved : goal.loop-counted-preserved
loop-counted-preserved g c =
    let h = c.loop-counted.invariant in
    noted_more (g.I.Source.tape c.read_record_into.new.source) (packet c.read_record_into.new.frame) c.note.new.self h
    c.in-Ok.ensures.gave c.in-Ok.ensures.room c.in-Ok.ensures.cause c.in-Ok.ensures.calls c.note.ensures.check c.note.ensures.idle
    (c.in-Ok-note.ensures.counted (told_by c.args.rules c.args.head.link h.records) h.noted (next_number h))

pub returns-in_default-clause-refused : goal.returns-in_default-clause-refused
returns-in_default-clause-refused g c =
    noted_too_many (g.I.Source.tape c.read_record_into.new.source) (packet c.read_record_into.new.frame) c.loop-counted.invariant c.in-Ok.ensures.gave c.in-Ok.ensures.cause

pub returns-in-Err-End-clause-told : goal.returns-in-Err-End-clause-told
returns-in-Err-End-clause-told g c =
    noted_all (g.I.Source.tape c.read_record_into.new.source) ends.End c.loop-counted.invariant (rw c.in-Err-End.field-0-is at c.in-Err-End.ensures.gave)

pub returns-in-Err-Cut-clause-told : goal.returns-in-Err-Cut-clause-told
returns-in-Err-Cut-clause-told g c =
    noted_all (g.I.Source.tape c.read_record_into.new.source) ends.Cut c.loop-counted.invariant (rw c.in-Err-Cut.field-0-is at c.in-Err-Cut.ensures.gave)

pub returns-in-Err-Failed-clause-refused : goal.returns-in-Err-Failed-clause-refused
returns-in-Err-Failed-clause-refused g c =
    let gave = rw c.in-Err-Failed.field-0-is at c.in-Err-Failed.ensures.gave in
    let cause = rw c.in-Err-Failed.field-0-is at c.in-Err-Failed.ensures.cause in
    rw c.in-Err-Failed.field-0-is (noted_refused (g.I.Source.tape c.read_record_into.new.source) c.in-Err-Failed.fault c.loop-counted.invariant gave cause)
