use Rattle.connection_starts.proofs.reading.read_ordinals.Goals as goal

pub note_records-requires-clause-fresh : goal.note_records-requires-clause-fresh
note_records-requires-clause-fresh g c = record {
  starts = record { each = c.new.ensures.starts.each };
  ordinals = record { each = (c.none.ensures.of_none c.new.result.idle).each; short = (c.none.ensures.of_none c.new.result.idle).short };
}
